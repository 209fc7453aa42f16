-- A walk keeps types: where what stands for each variable has the variable's type, the term that was walked to has the
-- term's type.
use Rattle.std.proofs.Common.{ℕ, ◌≡◌, ◌+◌, List, [], ◌∷◌, ◌++◌, reverse, length, Some, refl, sym, ◌∙◌, subst}
use Rattle.std.specs.Prelude.{slice_get}
use Rattle.tg_model.specs.Types.{Ty, bool}
use Rattle.tg_model.specs.Tree as tree
use Rattle.tg_model.specs.Tree.{Tree, Trees, Arms, bound, free, literal, truth, con, call, put, choice, case, bind, op}
use Rattle.tg_model.specs.Formula.{Formula, atom, both, implies, all, some, thyp, tested, deep}
use Rattle.tg_model.specs.Theory.{Theory, numbered}
use Rattle.tg_model.specs.TermTyping.{Typing, Typings, ArmTypings, leaf, instanced, compound, branching, binding, none, more, end, arm, type_of, types_of, IsOperation, constructor_arguments, IsTyping, AreTypings, AreArmTypings, IsTyped, AllTyped, IsWellFormed}
use Rattle.tg_model.specs.Walk.{walk, walk_all, walk_arms, walk_formula}

-- `vars` and `vars'` are the types of the free variables before and after, `Reads d locs locs'` relates those of the loose
-- bound ones within `d` binders
module _ (th : Theory) (vars vars' : List Ty) (on_bound on_free : ℕ → ℕ → Tree) (Reads : ℕ → List Ty → List Ty → Type 0)
    (under : (d : ℕ) (locs locs' ts : List Ty) → Reads d locs locs' → Reads (d + length ts) (reverse ts ++ locs) (reverse ts ++ locs'))
    (bounds : (d : ℕ) (locs locs' : List Ty) (k : ℕ) (t : Ty) → Reads d locs locs' → slice_get locs k ≡ Some t → IsTyped th vars' locs' (on_bound d k) t)
    (frees : (d : ℕ) (locs locs' : List Ty) (n : ℕ) (t : Ty) → Reads d locs locs' → numbered vars n ≡ Some t → IsTyped th vars' locs' (on_free d n) t) where
  abbrev AllTypings : List Ty → Trees → List Ty → Type 0
  AllTypings locs ts us = (ds : Typings) × AreTypings th vars' locs ts ds × (types_of ds ≡ us)

  abbrev ArmsTyped : List Ty → Ty → Arms → List (List Ty) → Type 0
  ArmsTyped locs u bs args = (arms : ArmTypings) × AreArmTypings th vars' locs u bs args arms

  mutual
    pub keeps_types : (t : Tree) (d : Typing) (n : ℕ) (locs locs' : List Ty) → Reads n locs locs' → IsTyping th vars locs t d
        → IsTyped th vars' locs' (walk on_bound on_free n t) (type_of d)
    keeps_types (bound k) (leaf t) n locs locs' r h = bounds n locs locs' k t r h
    keeps_types (free m) (leaf t) n locs locs' r h = frees n locs locs' m t r h
    keeps_types (literal m) (leaf t) n locs locs' r h = (leaf t, h, refl)
    keeps_types (truth b) (leaf t) n locs locs' r h = (leaf t, h, refl)
    keeps_types (con c ts) (instanced us t ds) n locs locs' r (o, is, e, q, args, each) =
        let p = keep_all_types ts ds n locs locs' r each in (instanced us t p.0, (o, is, e, q, p.2 ∙ args, p.1), refl)
    keeps_types (call f ts) (instanced us t ds) n locs locs' r (x, is, e, q, args, each) =
        let p = keep_all_types ts ds n locs locs' r each in (instanced us t p.0, (x, is, e, q, p.2 ∙ args, p.1), refl)
    keeps_types (put ts) (compound t ds) n locs locs' r (q, args, each) =
        let p = keep_all_types ts ds n locs locs' r each in (compound t p.0, (q, p.2 ∙ args, p.1), refl)
    keeps_types (choice ts) (compound t ds) n locs locs' r (args, each) =
        let p = keep_all_types ts ds n locs locs' r each in (compound t p.0, (p.2 ∙ args, p.1), refl)
    keeps_types (op o ts) (compound t ds) n locs locs' r (is, each) =
        let p = keep_all_types ts ds n locs locs' r each in
        (compound t p.0, (subst (λ (us : List Ty). IsOperation o us t) (sym p.2) is, p.1), refl)
    keeps_types (bind t body) (binding u v d e) n locs locs' r (p, q, b, s) =
        let bound_term = keeps_types t d n locs locs' r p in
        let inner = keeps_types body e (n + 1) (u ∷ locs) (u ∷ locs') (under n locs locs' (u ∷ []) r) b in
        (binding u v bound_term.0 inner.0, (bound_term.1, q ∙ sym bound_term.2, inner.1, s ∙ sym inner.2), refl)
    keeps_types (case m t bs) (branching us u d arms) n locs locs' r (is, e, p, each) =
        let scrutinee = keeps_types t d n locs locs' r p in
        let rest = keep_arm_types bs (constructor_arguments th m us) arms u n locs locs' r each in
        (branching us u scrutinee.0 rest.0, (is, scrutinee.2 ∙ e, scrutinee.1, rest.1), refl)
    keeps_types t d n locs locs' r h = absurd h

    keep_all_types : (ts : Trees) (ds : Typings) (n : ℕ) (locs locs' : List Ty) → Reads n locs locs' → AreTypings th vars locs ts ds
        → AllTypings locs' (walk_all on_bound on_free n ts) (types_of ds)
    keep_all_types tree.none none n locs locs' r h = (none, tt, refl)
    keep_all_types tree.none (more d ds) n locs locs' r h = absurd h
    keep_all_types (tree.more t ts) none n locs locs' r h = absurd h
    keep_all_types (tree.more t ts) (more d ds) n locs locs' r h =
        let first = keeps_types t d n locs locs' r h.0 in
        let rest = keep_all_types ts ds n locs locs' r h.1 in
        (more first.0 rest.0, (first.1, rest.1), λ i. first.2 i ∷ rest.2 i)

    keep_arm_types : (bs : Arms) (args : List (List Ty)) (arms : ArmTypings) (u : Ty) (n : ℕ) (locs locs' : List Ty) → Reads n locs locs'
        → AreArmTypings th vars locs u bs args arms → ArmsTyped locs' u (walk_arms on_bound on_free n bs) args
    keep_arm_types tree.end [] end u n locs locs' r h = (end, tt)
    keep_arm_types (tree.arm m body bs) (ts ∷ rest) (arm ts' d arms) u n locs locs' r (count, e, p, q, others) =
        let reads : Reads (n + m) (reverse ts ++ locs) (reverse ts ++ locs') =
        subst (λ (k : ℕ). Reads (n + k) (reverse ts ++ locs) (reverse ts ++ locs')) (sym count) (under n locs locs' ts r) in
        let inner = keeps_types body d (n + m) (reverse ts ++ locs) (reverse ts ++ locs') reads p in
        let later = keep_arm_types bs rest arms u n locs locs' r others in
        (arm ts' inner.0 later.0, (count, e, inner.1, inner.2 ∙ q, later.1))
    keep_arm_types bs args arms u n locs locs' r h = absurd h

  pub keeps_typed : (t : Tree) (u : Ty) (n : ℕ) (locs locs' : List Ty) → Reads n locs locs' → IsTyped th vars locs t u
      → IsTyped th vars' locs' (walk on_bound on_free n t) u
  keeps_typed t u n locs locs' r (d, h, e) = let p = keeps_types t d n locs locs' r h in (p.0, p.1, p.2 ∙ e)

  keep_all_typed : (ts : Trees) (us : List Ty) (n : ℕ) (locs locs' : List Ty) → Reads n locs locs' → AllTyped th vars locs ts us
      → AllTyped th vars' locs' (walk_all on_bound on_free n ts) us
  keep_all_typed tree.none [] n locs locs' r h = tt
  keep_all_typed tree.none (u ∷ us) n locs locs' r h = absurd h
  keep_all_typed (tree.more t ts) [] n locs locs' r h = absurd h
  keep_all_typed (tree.more t ts) (u ∷ us) n locs locs' r h = (keeps_typed t u n locs locs' r h.0, keep_all_typed ts us n locs locs' r h.1)

  pub keeps_well_formed : (f : Formula) (n : ℕ) (locs locs' : List Ty) → Reads n locs locs' → IsWellFormed th vars locs f
      → IsWellFormed th vars' locs' (walk_formula on_bound on_free n f)
  keeps_well_formed (atom t) n locs locs' r h = keeps_typed t bool n locs locs' r h
  keeps_well_formed (both f g) n locs locs' r h = (keeps_well_formed f n locs locs' r h.0, keeps_well_formed g n locs locs' r h.1)
  keeps_well_formed (implies f g) n locs locs' r h = (keeps_well_formed f n locs locs' r h.0, keeps_well_formed g n locs locs' r h.1)
  keeps_well_formed (all t f) n locs locs' r h = (h.0, keeps_well_formed f (n + 1) (t ∷ locs) (t ∷ locs') (under n locs locs' (t ∷ []) r) h.1)
  keeps_well_formed (some t f) n locs locs' r h = (h.0, keeps_well_formed f (n + 1) (t ∷ locs) (t ∷ locs') (under n locs locs' (t ∷ []) r) h.1)
  keeps_well_formed (thyp f) n locs locs' r h = keeps_well_formed f n locs locs' r h
  keeps_well_formed (tested ts) n locs locs' r h = keep_all_typed ts th.program.inputs n locs locs' r h
  keeps_well_formed (deep k ts) n locs locs' r h = keep_all_typed ts th.program.inputs n locs locs' r h
