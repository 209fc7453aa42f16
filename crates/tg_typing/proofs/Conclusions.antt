-- What settling the table says of typings, where the step from the table without nodes asks for a typing.
use Rattle.std.proofs.Common.{ℕ, ◌≡◌, Bool as Truth, List, [], ◌∷◌, ◌++◌, length, refl, sym, ◌∙◌, ap, subst, arith}
use Rattle.std.specs.Prelude.{map, Option}
use Rattle.tg_model.specs.Types.{Ty, nat}
use Rattle.tg_model.specs.Theory.{Theory, Function}
use Rattle.tg_model.specs.TermTyping.{Typing, type_of}
use Rattle.tg_types.specs.Substitutions.{Assignment}
use Rattle.tg_shared_types.specs.declared.nodes.Node.{Node}
use Rattle.tg_shared_types.specs.declared.nodes.Node.TheVariants.{Open}
use Rattle.tg_shared_types.specs.Nodes.{Fits, IsNodeTable}
use Rattle.tg_shared_types.specs.Growth.{Grows}
use Rattle.tg_shared_types.specs.Settled.{HasNone, HasOne, HasSeveral}
use Rattle.tg_accept.specs.Resolved.{Resolved}
use Rattle.tg_accept.specs.ResolvedTyping.{IsTypingOf}
use Rattle.tg_typing.specs.Growing.{Agree, Reading, IsImpossible, Outcome}
use Rattle.tg_typing.specs.Scopes.{Scope, HasTyping}
use Rattle.tg_typing.specs.Counts.{HasNoTyping, HasOneTyping, HasTwoTypings}
use Rattle.tg_typing.proofs.Turns.{Makes, in_turn, grown_of, Nothing}
use Rattle.tg_typing.proofs.Opened.{opened}

nowhere : Fits (λ i. nat) []
nowhere = record { at = λ i h. absurd (omega (arith, h)) }

module _ (Is : Typing → Type 0) where
  pub impossible : IsImpossible [] Typing (λ ρ. Is) → HasNoTyping Is
  impossible fails d w = fails (λ i. nat) d nowhere w

  module _ {new : List Node} (done : Reading [] new Typing (λ ρ. Is)) where
    pub none_typed : HasNone new → HasNoTyping Is
    none_typed none d w = let x = done.grown.complete (λ i. nat) d nowhere w in none x.types x.fits

    pub one_typed : HasOne new → HasOneTyping Is
    one_typed one = record {
      typing = done.read one.types;
      is = done.grown.sound one.types one.fits;
      only = λ d w.
          let x = done.grown.complete (λ i. nat) d nowhere w in
          sym x.reads ∙ done.grown.local x.types one.types (record { at = one.only x.types x.fits });
    }

    pub several_typed : HasSeveral new → HasTwoTypings Is
    several_typed two = record {
      typing = done.read two.types;
      other = done.read two.others;
      is = done.grown.sound two.types two.fits;
      other_is = done.grown.sound two.others two.others_fit;
      differ = λ e.
          let none : Agree 0 two.types two.others = record { at = λ i h. absurd (omega (arith, h)) } in
          let a = done.grown.determined two.types two.others two.fits two.others_fit none e in
          two.differ (a.at two.node two.inside);
    }

-- a table whose nodes are those of given types, and what typing a term there says of typings at these types
module _ (th : Theory) (self : Option Function) (ps vars locs : List Ty) (t : Resolved) (base : List Node) (parameters free loose : List ℕ) (g : Grows [] base)
    (given : (ρ : Assignment) → Fits ρ base → (map ρ parameters ≡ ps) × (map ρ free ≡ vars) × (map ρ loose ≡ locs)) where
  abbrev pub Outermost : Scope
  Outermost = record { parameters = parameters; vars = free; locs = loose }

  to_given : (ρ : Assignment) (d : Typing) → Fits ρ base → IsTypingOf th self (map ρ parameters) (map ρ free) (map ρ loose) t d → IsTypingOf th self ps vars locs t d
  to_given ρ d f w =
      let x = given ρ f in
      subst (λ us. IsTypingOf th self ps vars us t d) x.2
      (subst (λ us. IsTypingOf th self ps us (map ρ loose) t d) x.1 (subst (λ us. IsTypingOf th self us (map ρ free) (map ρ loose) t d) x.0 w))

  from_given : (ρ : Assignment) (d : Typing) → Fits ρ base → IsTypingOf th self ps vars locs t d → IsTypingOf th self (map ρ parameters) (map ρ free) (map ρ loose) t d
  from_given ρ d f w =
      let x = given ρ f in
      subst (λ us. IsTypingOf th self (map ρ parameters) (map ρ free) us t d) (sym x.2)
      (subst (λ us. IsTypingOf th self (map ρ parameters) us locs t d) (sym x.1) (subst (λ us. IsTypingOf th self us vars locs t d) (sym x.0) w))

  -- at the type of a node
  pub typed_at : (new : List Node) (u : Ty) (e : ℕ) (ok : Truth) → ((ρ : Assignment) → Fits ρ base → ρ e ≡ u) →
      Outcome base new Typing (HasTyping th self Outermost t e) ok →
      Outcome [] new Typing (λ ρ d. IsTypingOf th self ps vars locs t d × (type_of d ≡ u)) ok
  typed_at new u e ok reads second = in_turn (grown_of g) makes new ok second where
    makes : Makes [] base (λ ρ. tt) Nothing (HasTyping th self Outermost t e) (λ a d. d)
        (λ ρ d. IsTypingOf th self ps vars locs t d × (type_of d ≡ u))
    makes = record {
      there = λ ρ d f p q. (to_given ρ d f q.0, q.1 ∙ reads ρ f);
      back = λ ρ d f w. (tt, tt, λ φ f' a r. (d, (from_given φ d f' w.0, w.1 ∙ sym (reads φ f')), refl));
      apart = λ ρ φ d d' f f' p p' q q' r. (refl, r);
    }

  abbrev Here : Assignment → Typing → Type 0
  Here ρ d = IsTypingOf th self (map ρ parameters) (map ρ free) (map ρ loose) t d

  -- at any type, which is that of an open node
  pub typed_anyhow : (new : List Node) (ok : Truth) → IsNodeTable base → Outcome (base ++ Open ∷ []) new Typing (HasTyping th self Outermost t (length base)) ok →
      Outcome [] new Typing (λ ρ d. IsTypingOf th self ps vars locs t d) ok
  typed_anyhow new ok table second = in_turn (grown_of g) outer new ok (in_turn (opened base table) inner new ok second) where
    inner : Makes base (base ++ Open ∷ []) (λ ρ. ρ (length base)) (λ ρ u. Unit {0}) (HasTyping th self Outermost t (length base)) (λ u d. d) Here
    inner = record {
      there = λ ρ d f p q. q.0;
      back = λ ρ d f w. (type_of d, tt, λ φ f' a r. (d, (from_given φ d ((opened base table).older φ f') (to_given ρ d f w), sym r), refl));
      apart = λ ρ φ d d' f f' p p' q q' r. (sym q.1 ∙ ap type_of r ∙ q'.1, r);
    }

    outer : Makes [] base (λ ρ. tt) Nothing Here (λ a d. d) (λ ρ d. IsTypingOf th self ps vars locs t d)
    outer = record {
      there = λ ρ d f p q. to_given ρ d f q;
      back = λ ρ d f w. (tt, tt, λ φ f' a r. (d, from_given φ d f' w, refl));
      apart = λ ρ φ d d' f f' p p' q q' r. (refl, r);
    }
