-- Terms that are uses of something at their arguments, and lists of arguments.
use Rattle.std.proofs.Common.{ℕ, ◌≡◌, ◌<◌, Bool as Truth, true, List, [], ◌∷◌, length, refl, sym, ◌∙◌, ap, subst, arith}
use Rattle.std.specs.Prelude.{map, Option}
use Rattle.tg_model.specs.Tree.{Operator}
use Rattle.tg_model.specs.Types.{Ty}
use Rattle.tg_model.specs.Theory.{Theory, Function}
use Rattle.tg_model.specs.TermTyping.{Typing, Typings, instanced, compound, none, more, type_of, types_of, IsOperation}
use Rattle.tg_types.specs.Substitutions.{Assignment}
use Rattle.tg_shared_types.specs.declared.nodes.Node.{Node}
use Rattle.tg_shared_types.specs.Nodes.{Fits, AreBelow}
use Rattle.tg_accept.specs.Resolved as resolved
use Rattle.tg_accept.specs.Resolved.{Resolved, Resolveds, con, call, own, put, choice, op, misused}
use Rattle.tg_accept.specs.ResolvedTyping.{IsTypingOf, AreTypingsOf}
use Rattle.tg_typing.specs.Growing.{Agree, IsImpossible, Outcome}
use Rattle.tg_typing.specs.Scopes.{Scope, IsScope, HasTyping, HaveTypings}
use Rattle.tg_typing.specs.Uses.{Use, UsesConstructor, UsesFunction, UsesOwn, UsesProgram, UsesChoice, UsesOperator, IsUsed, Framed}
use Rattle.tg_typing.proofs.Turns.{Makes, in_turn, agree_itself, same_types}
use Rattle.tg_typing.proofs.Scoped.{moved}

-- how a typing is made of a use and typings of the arguments
pub record IsApplied (th : Theory) (self : Option Function) (s : Scope) (t : Resolved) (ts : Resolveds) (Uses : Assignment → Use → Type 0)
    (make : Use → Typings → Typing) : Type 0 where
  pub there : (ρ : Assignment) (u : Use) (ds : Typings) → Uses ρ u → types_of ds ≡ u.arguments →
      AreTypingsOf th self (map ρ s.parameters) (map ρ s.vars) (map ρ s.locs) ts ds →
      IsTypingOf th self (map ρ s.parameters) (map ρ s.vars) (map ρ s.locs) t (make u ds)
  pub answers : (u : Use) (ds : Typings) → type_of (make u ds) ≡ u.answer
  pub back : (ρ : Assignment) (d : Typing) → IsTypingOf th self (map ρ s.parameters) (map ρ s.vars) (map ρ s.locs) t d →
      (u : Use) × (ds : Typings) × Uses ρ u × (types_of ds ≡ u.arguments)
      × AreTypingsOf th self (map ρ s.parameters) (map ρ s.vars) (map ρ s.locs) ts ds × (make u ds ≡ d)
  pub apart : (ρ φ : Assignment) (u v : Use) (ds es : Typings) → Uses ρ u → Uses φ v → types_of ds ≡ u.arguments → types_of es ≡ v.arguments →
      make u ds ≡ make v es → (u ≡ v) × (ds ≡ es)

module _ (th : Theory) (self : Option Function) (s : Scope) (e : ℕ) where
  pub use_typed : (old mid new : List Node) (es : List ℕ) (ok : Truth) (t : Resolved) (ts : Resolveds) (Uses : Assignment → Use → Type 0)
      (make : Use → Typings → Typing) → IsApplied th self s t ts Uses make → IsScope (length old) s → Framed old mid Uses e es →
      Outcome mid new Typings (HaveTypings th self s ts es) ok → Outcome old new Typing (HasTyping th self s t e) ok
  use_typed old mid new es ok t ts Uses make is scope frame second = in_turn frame.grown makes new ok second where
    makes : Makes old mid frame.read (IsUsed Uses e) (HaveTypings th self s ts es) make (HasTyping th self s t e)
    makes = record {
      there = λ ρ ds f p q.
          (is.there ρ (frame.read ρ) ds p.0 (q.1 ∙ frame.arguments ρ f) q.0, is.answers (frame.read ρ) ds ∙ p.1);
      back = λ ρ d f w.
          let x = is.back ρ d w.0 in (
            x.0,
            (x.2, sym (is.answers x.0 x.1) ∙ ap type_of x.5 ∙ w.1),
            λ φ g a r. (
              x.1,
              (
                moved s (λ ps vars locs. AreTypingsOf th self ps vars locs ts x.1) scope a x.4,
                x.3 ∙ sym (ap (λ (u : Use). u.arguments) r) ∙ sym (frame.arguments φ g),
              ),
              x.5,
            ),
          );
      apart = λ ρ φ ds ds' f g p p' q q' r.
          is.apart ρ φ (frame.read ρ) (frame.read φ) ds ds' p.0 p'.0 (q.1 ∙ frame.arguments ρ f) (q'.1 ∙ frame.arguments φ g) r;
    }

  -- lists
  pub none_typed : (old : List Node) → Outcome old old Typings (HaveTypings th self s resolved.none []) true
  none_typed old = record {
    read = λ ρ. none;
    grown = record {
      longer = omega arith;
      older = λ ρ f. f;
      sound = λ ρ f. (tt, refl);
      complete = λ ρ ds f w. record { types = ρ; fits = f; same = agree_itself; reads = empty ρ ds w.0 };
      determined = λ ρ φ f g a r. a;
      local = λ ρ φ a. refl;
    };
  } where
    empty : (ρ : Assignment) (ds : Typings) → AreTypingsOf th self (map ρ s.parameters) (map ρ s.vars) (map ρ s.locs) resolved.none ds → none ≡ ds
    empty ρ none w = refl
    empty ρ (more d ds) w = absurd w

  pub more_typed : (old mid new : List Node) (es : List ℕ) (ok : Truth) (t : Resolved) (ts : Resolveds) → IsScope (length old) s → e < length old →
      Outcome old mid Typing (HasTyping th self s t e) true → Outcome mid new Typings (HaveTypings th self s ts es) ok → AreBelow (length old) es →
      Outcome old new Typings (HaveTypings th self s (resolved.more t ts) (e ∷ es)) ok
  more_typed old mid new es ok t ts scope h first second below = in_turn first.grown makes new ok second where
    makes : Makes old mid first.read (HasTyping th self s t e) (HaveTypings th self s ts es) more (HaveTypings th self s (resolved.more t ts) (e ∷ es))
    makes = record {
      there = λ ρ ds f p q. ((p.0, q.0), λ i. p.1 i ∷ q.1 i);
      back = λ ρ ds f w. split ρ ds w.0 w.1;
      apart = λ ρ φ ds ds' f g p p' q q' r. ((let x : first.read ρ ≡ first.read φ = cc r in x), (let x : ds ≡ ds' = cc r in x));
    } where
      split : (ρ : Assignment) (ds : Typings) →
          AreTypingsOf th self (map ρ s.parameters) (map ρ s.vars) (map ρ s.locs) (resolved.more t ts) ds → types_of ds ≡ ρ e ∷ map ρ es →
          (d : Typing) × HasTyping th self s t e ρ d × ((φ : Assignment) → Fits φ mid → Agree (length old) φ ρ → first.read φ ≡ d →
          (ds' : Typings) × HaveTypings th self s ts es φ ds' × (more d ds' ≡ ds))
      split ρ none w q = absurd w
      split ρ (more d ds) w q =
          let head : type_of d ≡ ρ e = cc q in
          let tail : types_of ds ≡ map ρ es = cc q in (
            d,
            (w.0, head),
            λ φ f a r. (
              ds,
              (moved s (λ ps vars locs. AreTypingsOf th self ps vars locs ts ds) scope a w.1, tail ∙ sym (same_types es below a)),
              refl,
            ),
          )

  pub more_untyped : (old : List Node) (es : List ℕ) (t : Resolved) (ts : Resolveds) → IsImpossible old Typing (HasTyping th self s t e) →
      IsImpossible old Typings (HaveTypings th self s (resolved.more t ts) (e ∷ es))
  more_untyped old es t ts fails ρ none f w = absurd w.0
  more_untyped old es t ts fails ρ (more d ds) f w = fails ρ d f (w.0.0, (let head : type_of d ≡ ρ e = cc w.1 in head))

  pub too_few : (old : List Node) (es : List ℕ) → IsImpossible old Typings (HaveTypings th self s resolved.none (e ∷ es))
  too_few old es ρ none f w = cc w.1
  too_few old es ρ (more d ds) f w = absurd w.0

  pub too_many : (old : List Node) (t : Resolved) (ts : Resolveds) → IsImpossible old Typings (HaveTypings th self s (resolved.more t ts) [])
  too_many old t ts ρ none f w = absurd w.0
  too_many old t ts ρ (more d ds) f w = cc w.1

  pub misused_untyped : (old : List Node) (ts : Resolveds) → IsImpossible old Typing (HasTyping th self s (misused ts) e)
  misused_untyped old ts ρ d f w = absurd w.0

-- the six kinds of uses
abbrev pub make_instance : Use → Typings → Typing
make_instance u ds = instanced u.at u.answer ds

abbrev pub make_compound : Use → Typings → Typing
make_compound u ds = compound u.answer ds

same_use : {u v : Use} → u.at ≡ v.at → u.arguments ≡ v.arguments → u.answer ≡ v.answer → u ≡ v
same_use a b c = λ i. record { at = a i; arguments = b i; answer = c i }

instance_apart : (u v : Use) (ds es : Typings) → types_of ds ≡ u.arguments → types_of es ≡ v.arguments → make_instance u ds ≡ make_instance v es →
    (u ≡ v) × (ds ≡ es)
instance_apart u v ds es p q r =
    let a : u.at ≡ v.at = cc r in
    let b : u.answer ≡ v.answer = cc r in
    let c : ds ≡ es = cc r in
    (same_use a (sym p ∙ ap types_of c ∙ q) b, c)

compound_apart : (u v : Use) (ds es : Typings) → u.at ≡ [] → v.at ≡ [] → types_of ds ≡ u.arguments → types_of es ≡ v.arguments →
    make_compound u ds ≡ make_compound v es → (u ≡ v) × (ds ≡ es)
compound_apart u v ds es h k p q r =
    let b : u.answer ≡ v.answer = cc r in
    let c : ds ≡ es = cc r in
    (same_use (h ∙ sym k) (sym p ∙ ap types_of c ∙ q) b, c)

-- a use of the types of a typing
abbrev use_at : List Ty → Typings → Ty → Use
use_at us ds t = record { at = us; arguments = types_of ds; answer = t }

module _ (th : Theory) (self : Option Function) (s : Scope) (ts : Resolveds) where
  pub con_applied : (c : ℕ) → IsApplied th self s (con c ts) ts (λ ρ. UsesConstructor th c) make_instance
  con_applied c = record {
    there = λ ρ u ds h p w. (h.0, h.1, h.2, h.3, p ∙ h.4, w);
    answers = λ u ds. refl;
    back = λ ρ d w. split ρ d w;
    apart = λ ρ φ u v ds es h k p q r. instance_apart u v ds es p q r;
  } where
    split : (ρ : Assignment) (d : Typing) → IsTypingOf th self (map ρ s.parameters) (map ρ s.vars) (map ρ s.locs) (con c ts) d →
        (u : Use) × (ds : Typings) × UsesConstructor th c u × (types_of ds ≡ u.arguments)
        × AreTypingsOf th self (map ρ s.parameters) (map ρ s.vars) (map ρ s.locs) ts ds × (make_instance u ds ≡ d)
    split ρ (instanced us t ds) w = (use_at us ds t, ds, (w.0, w.1, w.2, w.3, w.4), refl, w.5, refl)
    split ρ d w = absurd w

  pub call_applied : (f : ℕ) → IsApplied th self s (call f ts) ts (λ ρ. UsesFunction th f) make_instance
  call_applied f = record {
    there = λ ρ u ds h p w. (h.0, h.1, h.2, h.3, p ∙ h.4, w);
    answers = λ u ds. refl;
    back = λ ρ d w. split ρ d w;
    apart = λ ρ φ u v ds es h k p q r. instance_apart u v ds es p q r;
  } where
    split : (ρ : Assignment) (d : Typing) → IsTypingOf th self (map ρ s.parameters) (map ρ s.vars) (map ρ s.locs) (call f ts) d →
        (u : Use) × (ds : Typings) × UsesFunction th f u × (types_of ds ≡ u.arguments)
        × AreTypingsOf th self (map ρ s.parameters) (map ρ s.vars) (map ρ s.locs) ts ds × (make_instance u ds ≡ d)
    split ρ (instanced us t ds) w = (use_at us ds t, ds, (w.0, w.1, w.2, w.3, w.4), refl, w.5, refl)
    split ρ d w = absurd w

  pub own_applied : IsApplied th self s (own ts) ts (λ ρ. UsesOwn self (map ρ s.parameters)) make_instance
  own_applied = record {
    there = λ ρ u ds h p w. (h.0, h.1, h.2, h.3, p ∙ h.4, w);
    answers = λ u ds. refl;
    back = λ ρ d w. split ρ d w;
    apart = λ ρ φ u v ds es h k p q r. instance_apart u v ds es p q r;
  } where
    split : (ρ : Assignment) (d : Typing) → IsTypingOf th self (map ρ s.parameters) (map ρ s.vars) (map ρ s.locs) (own ts) d →
        (u : Use) × (ds : Typings) × UsesOwn self (map ρ s.parameters) u × (types_of ds ≡ u.arguments)
        × AreTypingsOf th self (map ρ s.parameters) (map ρ s.vars) (map ρ s.locs) ts ds × (make_instance u ds ≡ d)
    split ρ (instanced us t ds) w = (use_at us ds t, ds, (w.0, w.1, w.2, w.3, w.4), refl, w.5, refl)
    split ρ d w = absurd w

  pub put_applied : IsApplied th self s (put ts) ts (λ ρ. UsesProgram th) make_compound
  put_applied = record {
    there = λ ρ u ds h p w. (h.1, p ∙ h.2, w);
    answers = λ u ds. refl;
    back = λ ρ d w. split ρ d w;
    apart = λ ρ φ u v ds es h k p q r. compound_apart u v ds es h.0 k.0 p q r;
  } where
    split : (ρ : Assignment) (d : Typing) → IsTypingOf th self (map ρ s.parameters) (map ρ s.vars) (map ρ s.locs) (put ts) d →
        (u : Use) × (ds : Typings) × UsesProgram th u × (types_of ds ≡ u.arguments)
        × AreTypingsOf th self (map ρ s.parameters) (map ρ s.vars) (map ρ s.locs) ts ds × (make_compound u ds ≡ d)
    split ρ (compound t ds) w = (use_at [] ds t, ds, (refl, w.0, w.1), refl, w.2, refl)
    split ρ d w = absurd w

  pub choice_applied : IsApplied th self s (choice ts) ts (λ ρ. UsesChoice) make_compound
  choice_applied = record {
    there = λ ρ u ds h p w. (p ∙ h.1, w);
    answers = λ u ds. refl;
    back = λ ρ d w. split ρ d w;
    apart = λ ρ φ u v ds es h k p q r. compound_apart u v ds es h.0 k.0 p q r;
  } where
    split : (ρ : Assignment) (d : Typing) → IsTypingOf th self (map ρ s.parameters) (map ρ s.vars) (map ρ s.locs) (choice ts) d →
        (u : Use) × (ds : Typings) × UsesChoice u × (types_of ds ≡ u.arguments)
        × AreTypingsOf th self (map ρ s.parameters) (map ρ s.vars) (map ρ s.locs) ts ds × (make_compound u ds ≡ d)
    split ρ (compound t ds) w = (use_at [] ds t, ds, (refl, w.0), refl, w.1, refl)
    split ρ d w = absurd w

  pub op_applied : (o : Operator) → IsApplied th self s (op o ts) ts (λ ρ. UsesOperator o) make_compound
  op_applied o = record {
    there = λ ρ u ds h p w. (subst (λ us. IsOperation o us u.answer) (sym p) h.1, w);
    answers = λ u ds. refl;
    back = λ ρ d w. split ρ d w;
    apart = λ ρ φ u v ds es h k p q r. compound_apart u v ds es h.0 k.0 p q r;
  } where
    split : (ρ : Assignment) (d : Typing) → IsTypingOf th self (map ρ s.parameters) (map ρ s.vars) (map ρ s.locs) (op o ts) d →
        (u : Use) × (ds : Typings) × UsesOperator o u × (types_of ds ≡ u.arguments)
        × AreTypingsOf th self (map ρ s.parameters) (map ρ s.vars) (map ρ s.locs) ts ds × (make_compound u ds ≡ d)
    split ρ (compound t ds) w = (use_at [] ds t, ds, (refl, w.0), refl, w.1, refl)
    split ρ d w = absurd w
