-- `case`: open nodes for what its datatype is used at, then the term, then the branches as they are written.
use Rattle.std.proofs.Common.{ℕ, suc, ◌≡◌, ◌≢◌, ◌<◌, Bool as Truth, true, false, List, [], ◌∷◌, ◌++◌, length, reverse, refl, sym, ◌∙◌, ap, subst, arith}
use Rattle.std.specs.Prelude.{map, Option, Some}
use Rattle.std.proofs.lemmas.List.{map-append, reverse-append}
use Rattle.tg_model.proofs.Places.{map-reverse}
use Rattle.tg_model.specs.Types.{Ty}
use Rattle.tg_model.specs.Theory.{Theory, Function}
use Rattle.tg_model.specs.TermTyping.{Typing, ArmTypings, branching, end, arm, IsDatatype, datatype_at}
use Rattle.tg_types.specs.Substitutions.{Assignment}
use Rattle.tg_shared_types.specs.declared.nodes.Node.{Node}
use Rattle.tg_shared_types.specs.Nodes.{Fits, AreBelow}
use Rattle.tg_accept.specs.Resolved as resolved
use Rattle.tg_accept.specs.Resolved.{Head, Resolved, Branches, case, branch}
use Rattle.tg_accept.specs.ResolvedTyping.{IsTypingOf, AreBranchTypings, head_at}
use Rattle.tg_accept.proofs.Aligned.{second}
use Rattle.tg_typing.specs.Growing.{Agree, Grown, IsImpossible, Outcome}
use Rattle.tg_typing.specs.Scopes.{Scope, IsScope, with_locs, HasTyping, HaveBranchTypings}
use Rattle.tg_typing.specs.Cases.{HeadNodes}
use Rattle.tg_typing.proofs.Turns.{Makes, in_turn, stuck_first, with_named, planted, same_types, agree_itself}
use Rattle.tg_typing.proofs.Scoped.{moved, scope_more, below_more}

pub below_both : (m : ℕ) (ks ls : List ℕ) → AreBelow m ks → AreBelow m ls → AreBelow m (ks ++ ls)
below_both m [] ls b c = c
below_both m (k ∷ ks) ls b c = (b.0, below_both m ks ls b.1 c)

pub below_reverse : (m : ℕ) (ks : List ℕ) → AreBelow m ks → AreBelow m (reverse ks)
below_reverse m [] b = tt
below_reverse m (k ∷ ks) b =
    subst (AreBelow m) (sym (reverse-append (k ∷ []) ks)) (below_both m (reverse ks) (k ∷ []) (below_reverse m ks b.1) (b.0, tt))

length_map : (ρ : Assignment) (ls : List ℕ) → length (map ρ ls) ≡ length ls
length_map ρ [] = refl
length_map ρ (l ∷ ls) = ap suc (length_map ρ ls)

module _ (th : Theory) (self : Option Function) (s : Scope) (n : ℕ) (us : List ℕ) (e : ℕ) where
  -- what is asked of branches depends on the types of the scope's nodes, of `us` and of `e` alone
  branches_moved : {m : ℕ} {ρ φ : Assignment} (bs : Branches) (ds : ArmTypings) (ts : List Ty) (u : Ty) → IsScope m s → Agree m φ ρ → map φ us ≡ ts →
      φ e ≡ u → AreBranchTypings th self (map ρ s.parameters) (map ρ s.vars) (map ρ s.locs) n ts u bs ds → HaveBranchTypings th self s n us bs e φ ds
  branches_moved {m} {ρ} {φ} bs ds ts u scope a same top w =
      subst (λ x. AreBranchTypings th self (map φ s.parameters) (map φ s.vars) (map φ s.locs) n x (φ e) bs ds) (sym same)
      (subst (λ x. AreBranchTypings th self (map φ s.parameters) (map φ s.vars) (map φ s.locs) n ts x bs ds) (sym top)
      (moved s (λ ps vars locs. AreBranchTypings th self ps vars locs n ts u bs ds) scope a w))

  pub end_typed : (old : List Node) → Outcome old old ArmTypings (HaveBranchTypings th self s n us resolved.end e) true
  end_typed old = record {
    read = λ ρ. end;
    grown = record {
      longer = omega arith;
      older = λ ρ f. f;
      sound = λ ρ f. tt;
      complete = λ ρ ds f w. record { types = ρ; fits = f; same = agree_itself; reads = empty ρ ds w };
      determined = λ ρ φ f g a r. a;
      local = λ ρ φ a. refl;
    };
  } where
    empty : (ρ : Assignment) (ds : ArmTypings) → HaveBranchTypings th self s n us resolved.end e ρ ds → end ≡ ds
    empty ρ end w = refl
    empty ρ (arm ts d ds) w = absurd w

  -- the scope of a branch's body
  abbrev Inner : List ℕ → Scope
  Inner ks = with_locs s (reverse ks ++ s.locs)

  locs_types : (ρ : Assignment) (ks : List ℕ) → map ρ (reverse ks ++ s.locs) ≡ reverse (map ρ ks) ++ map ρ s.locs
  locs_types ρ ks = map-append ρ (reverse ks) s.locs ∙ ap (λ x. x ++ map ρ s.locs) (map-reverse ρ ks)

  pub scope_inner : (m : ℕ) (ks : List ℕ) → IsScope m s → AreBelow m ks → IsScope m (Inner ks)
  scope_inner m ks scope b = (scope.0, scope.1, below_both m (reverse ks) s.locs (below_reverse m ks b) scope.2)

  module _ (head : Head) (xs : List (List ℕ)) (body : Resolved) (bs : Branches) (old : List Node) (scope : IsScope (length old) s)
      (he : e < length old) (hus : AreBelow (length old) us) where
    abbrev Both : List ℕ → Assignment → Typing × ArmTypings → Type 0
    Both ks ρ x = HasTyping th self (Inner ks) body e ρ x.0 × HaveBranchTypings th self s n us bs e ρ x.1

    abbrev IsHead : Assignment → List Ty → Type 0
    IsHead ρ ts = head_at th (map ρ us) head ≡ Some (n, ts)

    only : (mid : List Node) (ks : List ℕ) → HeadNodes th old mid n us head ks → (ρ φ : Assignment) (ts : List Ty) → Fits φ mid → Agree (length old) φ ρ →
        IsHead ρ ts → map φ ks ≡ ts
    only mid ks h ρ φ ts f a w =
        let p : Some (n, map φ ks) ≡ Some (n, ts) = sym (h.reads φ f) ∙ ap (λ x. head_at th x head) (same_types us hus a) ∙ w in
        second (n, map φ ks) (n, ts) p

    first : (mid : List Node) (ks : List ℕ) → HeadNodes th old mid n us head ks → Grown old mid (List Ty) (λ ρ. map ρ ks) IsHead
    first mid ks h = planted ks IsHead h.grows h.inside h.reads (only mid ks h)

    outer : (mid : List Node) (ks : List ℕ) → HeadNodes th old mid n us head ks → length ks ≡ length xs →
        Makes old mid (λ ρ. map ρ ks) IsHead (Both ks) (λ ts x. arm ts x.0 x.1) (HaveBranchTypings th self s n us (branch head xs body bs) e)
    outer mid ks h count = record {
      there = λ ρ x f p q. (
        p,
        sym count ∙ sym (length_map ρ ks),
        subst (λ locs. IsTypingOf th self (map ρ s.parameters) (map ρ s.vars) locs body x.0) (locs_types ρ ks) q.0.0,
        q.0.1,
        q.1,
      );
      back = λ ρ d f w. split ρ d w;
      apart = λ ρ φ x y f g p p' q q' r.
          let a : map ρ ks ≡ map φ ks = cc r in
          let b : x.0 ≡ y.0 = cc r in
          let c : x.1 ≡ y.1 = cc r in
          (a, λ i. (b i, c i));
    } where
      split : (ρ : Assignment) (d : ArmTypings) → HaveBranchTypings th self s n us (branch head xs body bs) e ρ d →
          (ts : List Ty) × IsHead ρ ts × ((φ : Assignment) → Fits φ mid → Agree (length old) φ ρ → map φ ks ≡ ts →
          (x : Typing × ArmTypings) × Both ks φ x × (arm ts x.0 x.1 ≡ d))
      split ρ end w = absurd w
      split ρ (arm ts d ds) w = (
        ts,
        w.0,
        λ φ f a r. (
          (d, ds),
          (
            (
              subst (λ locs. IsTypingOf th self (map φ s.parameters) (map φ s.vars) locs body d) (sym (locs_types φ ks))
                  (subst (λ x. IsTypingOf th self (map φ s.parameters) (map φ s.vars) (reverse x ++ map φ s.locs) body d) (sym r)
                  (moved s (λ ps vars locs. IsTypingOf th self ps vars (reverse ts ++ locs) body d) scope a w.2)),
              w.3 ∙ sym (a.at e he),
            ),
            branches_moved bs ds (map ρ us) (ρ e) scope a (same_types us hus a) (a.at e he) w.4,
          ),
          refl,
        ),
      )

    pub branch_typed : (mid late new : List Node) (ks : List ℕ) (ok : Truth) → HeadNodes th old mid n us head ks → length ks ≡ length xs →
        Outcome mid late Typing (HasTyping th self (Inner ks) body e) true → Outcome late new ArmTypings (HaveBranchTypings th self s n us bs e) ok →
        Outcome old new ArmTypings (HaveBranchTypings th self s n us (branch head xs body bs) e) ok
    branch_typed mid late new ks ok h count second third =
        in_turn (first mid ks h) (outer mid ks h count) new ok (in_turn second.grown pair new ok third) where
          pair : Makes mid late second.read (HasTyping th self (Inner ks) body e) (HaveBranchTypings th self s n us bs e) (λ d ds. (d, ds)) (Both ks)
          pair = record {
            there = λ ρ ds f p q. (p, q);
            back = λ ρ x f w. (
              x.0,
              w.0,
              λ φ g a r. (
                x.1,
                branches_moved bs x.1 (map ρ us) (ρ e) (scope_more (length old) (length mid) s h.grows.longer scope) a
                    (same_types us (below_more (length old) (length mid) us h.grows.longer hus) a) (a.at e (let l = h.grows.longer in omega arith)) w.1,
                refl,
              ),
            );
            apart = λ ρ φ b c f g p p' q q' r. (ap (λ x. x.0) r, ap (λ x. x.1) r);
          }

    pub body_untyped : (mid : List Node) (ks : List ℕ) → HeadNodes th old mid n us head ks → length ks ≡ length xs →
        IsImpossible mid Typing (HasTyping th self (Inner ks) body e) →
        IsImpossible old ArmTypings (HaveBranchTypings th self s n us (branch head xs body bs) e)
    body_untyped mid ks h count fails = in_turn (first mid ks h) (outer mid ks h count) [] false (stuck_first fails (λ ρ x f w. (x.0, w.0)))

    pub head_untyped : ((ρ : Assignment) (ts : List Ty) → ¬ (IsHead ρ ts)) →
        IsImpossible old ArmTypings (HaveBranchTypings th self s n us (branch head xs body bs) e)
    head_untyped other ρ end f w = absurd w
    head_untyped other ρ (arm ts d ds) f w = other ρ ts w.0

    pub count_untyped : (mid : List Node) (ks : List ℕ) → HeadNodes th old mid n us head ks → length ks ≢ length xs →
        IsImpossible old ArmTypings (HaveBranchTypings th self s n us (branch head xs body bs) e)
    count_untyped mid ks h other ρ end f w = absurd w
    count_untyped mid ks h other ρ (arm ts d ds) f w =
        let x = h.grows.extends ρ f in
        let same = only mid ks h ρ x.types ts x.fits (record { at = x.same }) w.0 in
        other (sym (length_map x.types ks) ∙ ap length same ∙ sym w.1)

  module _ (t : Resolved) (bs : Branches) (old mid : List Node) (First : Assignment → List Ty → Type 0)
      (is : (ρ : Assignment) (ts : List Ty) → First ρ ts → IsDatatype th n ts) (same : (ρ : Assignment) (ts : List Ty) → IsDatatype th n ts → First ρ ts)
      (opens : Grown old mid (List Ty) (λ ρ. map ρ us) First) (hus : AreBelow (length mid) us) (m : ℕ)
      (reads : (ρ : Assignment) → Fits ρ mid → ρ m ≡ datatype_at n (map ρ us)) (scope : IsScope (length old) s) (he : e < length old) where
    abbrev Parts : Assignment → Typing × ArmTypings → Type 0
    Parts ρ x = HasTyping th self s t m ρ x.0 × HaveBranchTypings th self s n us bs e ρ x.1

    whole : Makes {A = Ty × List Ty} old mid (λ ρ. (ρ e, map ρ us)) (λ ρ x. (x.0 ≡ ρ e) × First ρ x.1) Parts (λ a x. branching a.1 a.0 x.0 x.1) (HasTyping th self s (case n t bs) e)
    whole = record {
      there = λ ρ x f p q. ((is ρ (map ρ us) p.1, q.0.1 ∙ reads ρ f, q.0.0, q.1), refl);
      back = λ ρ d f w. split ρ d w;
      apart = λ ρ φ x y f g p p' q q' r.
          let a : ρ e ≡ φ e = cc r in
          let b : map ρ us ≡ map φ us = cc r in
          let c : x.0 ≡ y.0 = cc r in
          let d : x.1 ≡ y.1 = cc r in
          (λ i. (a i, b i), λ i. (c i, d i));
    } where
      split : (ρ : Assignment) (d : Typing) → HasTyping th self s (case n t bs) e ρ d →
          (a : Ty × List Ty) × ((a.0 ≡ ρ e) × First ρ a.1) × ((φ : Assignment) → Fits φ mid → Agree (length old) φ ρ →
          (let x : Ty × List Ty = (φ e, map φ us) in x) ≡ a → (x : Typing × ArmTypings) × Parts φ x × (branching a.1 a.0 x.0 x.1 ≡ d))
      split ρ (branching ts u d ds) w = (
        (u, ts),
        (w.1, same ρ ts w.0.0),
        λ φ f a r.
            let top : φ e ≡ u = ap (λ x. x.0) r in
            let at : map φ us ≡ ts = ap (λ x. x.1) r in (
              (d, ds),
              (
                (
                  moved s (λ ps vars locs. IsTypingOf th self ps vars locs t d) scope a w.0.2,
                  w.0.1 ∙ ap (datatype_at n) (sym at) ∙ sym (reads φ f),
                ),
                branches_moved bs ds ts u scope a at top w.0.3,
              ),
              refl,
            ),
      )
      split ρ d w = absurd w.0

    pub case_typed : (late new : List Node) (ok : Truth) → Outcome mid late Typing (HasTyping th self s t m) true →
        Outcome late new ArmTypings (HaveBranchTypings th self s n us bs e) ok → Outcome old new Typing (HasTyping th self s (case n t bs) e) ok
    case_typed late new ok second third = in_turn (with_named e he opens) whole new ok (in_turn second.grown pair new ok third) where
      pair : Makes mid late second.read (HasTyping th self s t m) (HaveBranchTypings th self s n us bs e) (λ d ds. (d, ds)) Parts
      pair = record {
        there = λ ρ ds f p q. (p, q);
        back = λ ρ x f w. (
          x.0,
          w.0,
          λ φ g a r. (
            x.1,
            branches_moved bs x.1 (map ρ us) (ρ e) (scope_more (length old) (length mid) s opens.longer scope) a (same_types us hus a)
                (a.at e (let l = opens.longer in omega arith)) w.1,
            refl,
          ),
        );
        apart = λ ρ φ b c f g p p' q q' r. (ap (λ x. x.0) r, ap (λ x. x.1) r);
      }

    pub case_untyped : IsImpossible mid Typing (HasTyping th self s t m) → IsImpossible old Typing (HasTyping th self s (case n t bs) e)
    case_untyped fails = in_turn (with_named e he opens) whole [] false (stuck_first fails (λ ρ x f w. (x.0, w.0)))

  pub no_datatype : (old : List Node) (t : Resolved) (bs : Branches) → ((ts : List Ty) → ¬ (IsDatatype th n ts)) →
      IsImpossible old Typing (HasTyping th self s (case n t bs) e)
  no_datatype old t bs none ρ (branching ts u d ds) f w = none ts w.0.0
  no_datatype old t bs none ρ d f w = absurd w.0
