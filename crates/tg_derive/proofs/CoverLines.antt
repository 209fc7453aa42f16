-- What follows at each shape of a type and at each deeper term follows at a variable: constructor by constructor.
use Rattle.std.proofs.Common.{ℕ, zero, suc, ◌≡◌, ◌+◌, ◌⊎◌, true, List, [], ◌∷◌, ◌++◌, map, length, Option, Some, refl, sym, ◌∙◌, ap, subst, inl, inr, arith, append_assoc}
use Rattle.std.specs.Prelude.{slice_get}
use Rattle.std.specs.Option.{option_map_or}
use Rattle.std.proofs.lemmas.Option.{slice_get_within, none-some}
use Rattle.tg_model.specs.Tree as tree
use Rattle.tg_model.specs.Tree.{Tree, Trees, free, con, trees}
use Rattle.tg_model.specs.Types as types
use Rattle.tg_model.specs.Types.{Ty, Tys, nat, bool, parameter, meta, applied, tys, elements}
use Rattle.tg_model.specs.Formula.{Formula}
use Rattle.tg_model.specs.Theory.{Theory, Datatype, Constructor, Owned, numbered, instance, first_constructor, constructor_at, IsClosed, AreClosed}
use Rattle.tg_model.specs.TermTyping.{leaf, instanced, AllTyped, IsDatatype, constructor_arguments}
use Rattle.tg_model.specs.Made.{AreMade}
use Rattle.tg_model.specs.Accepted.{IsAccepted, IsAmong, variables_from}
use Rattle.tg_model.proofs.Booleans.{or_left, or_right}
use Rattle.tg_model.proofs.Constructors.{numbers_are_places}
use Rattle.tg_model.proofs.Contexts.{types_depend_on_used, used_have_types}
use Rattle.tg_model.proofs.Places.{get_left}
use Rattle.tg_split.specs.Shapes.{Shape, Shapes, hole, node, none, more, product, products, of_constructors, of_type}
use Rattle.tg_hyps.proofs.TypedValues.{closed_data}
use Rattle.tg_derive.specs.Covering.{HasShape, HaveShapes, IsCovered, Extends, HasHole, Covers, CoverIsDerivable}
use Rattle.tg_derive.specs.Derivability.{FollowInCases}
use Rattle.tg_derive.proofs.Equations.{all_kept, typings_of_all, equated}
use Rattle.tg_derive.proofs.TruthLines.{within_more}
use Rattle.tg_derive.proofs.ClauseLines.{in_first, in_second, in_map}
use Rattle.tg_derive.proofs.Instances.{item_there, count_more}
use Rattle.tg_derive.proofs.CaseLines.{in_cases}
use Rattle.tg_calculus.specs.Sequent.{Context, Hypotheses, Each, next}
use Rattle.tg_calculus.specs.Cases.{own_equation}
use Rattle.tg_calculus.specs.Replacement as by
use Rattle.tg_calculus.specs.Replacement.{Replaced, AllReplaced, FormulaReplaced}
use Rattle.tg_calculus.specs.Chains.{has_chain, some_has_chain}
use Rattle.tg_calculus.specs.Step.{IsContext, IsFormula, IsTerm}
use Rattle.tg_calculus.specs.Theorem.{Follows}
use Rattle.tg_calculus.proofs.NewVariables.{closed_both}
use Rattle.tg_calculus.proofs.DerivedRules.{assumed, widened, replacing, turned}

in_shapes : (s : Shape) (rest : Shapes) (ss : List Shape) (rests : List Shapes) → IsAmong s ss → IsAmong rest rests → IsAmong (more s rest) (product ss rests)
in_shapes s rest [] rests i j = absurd i
in_shapes s rest (r ∷ ss) rests (inl e) j =
    subst (λ x. IsAmong (more s rest) (map (more x) rests ++ product ss rests)) e
    (in_first (more s rest) (map (more s) rests) (product ss rests) (in_map (more s) rest rests j))
in_shapes s rest (r ∷ ss) rests (inr i) j = in_second (more s rest) (map (more r) rests) (product ss rests) (in_shapes s rest ss rests i j)

mutual
  shape_grows : (G K : Context) (s : Shape) (t : Tree) → Extends G K → HasShape G s t → HasShape K s t
  shape_grows G K (hole T) (free n) e h = e n T h
  shape_grows G K (node c ss) (con d ts) e h = (h.0, shapes_grow G K ss ts e h.1)
  shape_grows G K s t e h = absurd h

  shapes_grow : (G K : Context) (ss : Shapes) (ts : Trees) → Extends G K → HaveShapes G ss ts → HaveShapes K ss ts
  shapes_grow G K none tree.none e h = tt
  shapes_grow G K (more s ss) (tree.more t ts) e h = (shape_grows G K s t e h.0, shapes_grow G K ss ts e h.1)
  shapes_grow G K ss ts e h = absurd h

pub typed_grows : (th : Theory) (G K : Context) (t : Tree) (T : Ty) → Extends G K → IsTerm th G t T → IsTerm th K t T
typed_grows th G K t T e h =
    types_depend_on_used th G K [] t T (λ m u. let p = used_have_types th G [] t T h m u in p.1 ∙ sym (e m p.0 p.1)) h

all_grow : (th : Theory) (G K : Context) (ts : Trees) (Ts : List Ty) → Extends G K → AllTyped th G [] ts Ts → AllTyped th K [] ts Ts
all_grow th G K tree.none [] e h = tt
all_grow th G K tree.none (T ∷ Ts) e h = absurd h
all_grow th G K (tree.more t ts) [] e h = absurd h
all_grow th G K (tree.more t ts) (T ∷ Ts) e h = (typed_grows th G K t T e h.0, all_grow th G K ts Ts e h.1)

longer : (G Us : Context) → Extends G (G ++ Us)
longer G Us zero T h = absurd (none-some T h)
longer G Us (suc k) T h = get_left G Us k (slice_get_within G k T h) ∙ h

tys_back : (Us : Tys) → tys (elements Us) ≡ Us
tys_back types.none = refl
tys_back (types.more U Us) = ap (types.more U) (tys_back Us)

con_typed : (th : Theory) (L : Context) (c : ℕ) (xs : Trees) (us : List Ty) (T : Ty) (o : Owned) → constructor_at th c ≡ Some o → IsDatatype th o.datatype us
    → T ≡ applied o.datatype (tys us) → AllTyped th L [] xs (map (instance us) o.constructor.arguments) → IsTerm th L (con c xs) T
con_typed th L c xs us T o there is e h =
    let r = typings_of_all th L xs (map (instance us) o.constructor.arguments) h in (instanced us T r.0, (o, there, is, e, r.2, r.1), refl)

-- variables in a row have the types
abbrev pub AreInRow : Context → ℕ → List Ty → Type 0
AreInRow G m [] = Unit {0}
AreInRow G m (U ∷ Us) = (numbered G m ≡ Some U) × AreInRow G (suc m) Us

row_grows : (G K : Context) (m : ℕ) (Us : List Ty) → Extends G K → AreInRow G m Us → AreInRow K m Us
row_grows G K m [] e h = tt
row_grows G K m (U ∷ Us) e h = (e m U h.0, row_grows G K (suc m) Us e h.1)

pub new_row : (pre post : List Ty) → AreInRow (pre ++ post) (suc (length pre)) post
new_row pre [] = tt
new_row pre (U ∷ post) = (
  item_there pre U post,
  subst (λ (G : Context). AreInRow G (suc (suc (length pre))) post) (append_assoc pre (U ∷ []) post)
      (subst (λ n. AreInRow ((pre ++ U ∷ []) ++ post) (suc n) post) (count_more pre U) (new_row (pre ++ U ∷ []) post)),
)

abbrev pub row_of : ℕ → List Ty → Trees
row_of m Us = trees (variables_from m (length Us))

pub row_typed : (th : Theory) (G : Context) (m : ℕ) (Us : List Ty) → AreInRow G m Us → AllTyped th G [] (row_of m Us) Us
row_typed th G m [] h = tt
row_typed th G m (U ∷ Us) h = ((leaf U, h.0, refl), row_typed th G (suc m) Us h.1)

row_made : (m : ℕ) (Us : List Ty) → AreMade (row_of m Us)
row_made m [] = tt
row_made m (U ∷ Us) = (tt, row_made (suc m) Us)

module _ (th : Theory) (H : Hypotheses) (accepted : IsAccepted th) (wf : Each (IsFormula th []) H) where
  pub record HasHoles (G : Context) (Us : List Ty) (Q : Trees → Formula) : Type 0 where
    pub into : (s r : Tree) (ts us : Trees) → AreMade ts → AreMade us → AllReplaced s r ts us → FormulaReplaced s r (Q ts) (Q us)
    pub fits : (K : Context) → Extends G K → (ts : Trees) → AllTyped th K [] ts Us → IsFormula th K (Q ts)

  pub record CoversAll (k : ℕ) (Us : List Ty) (G K : Context) (ts : Trees) : Type 0 where
    pub extends : Extends G K
    pub closed : IsContext th K
    pub typed : AllTyped th K [] ts Us
    pub made : AreMade ts
    pub covered : ((ss : Shapes) × IsAmong ss (products (of_type th.datatypes k) Us) × HaveShapes K ss ts) ⊎ (some_has_chain th ts k Us ≡ true)

  abbrev pub CoversType : ℕ → Type 0
  CoversType k = (T : Ty) (G : Context) (n : ℕ) (Q : Tree → Formula) → IsContext th G → IsClosed th T → numbered G n ≡ Some T → HasHole th G T Q
      → ((K : Context) (t : Tree) → Covers th k T G K t → Follows th K H (Q t)) → Follows th G H (Q (free n))

  pub cover_list : (k : ℕ) → CoversType k → (Us : List Ty) (G : Context) (m : ℕ) (Q : Trees → Formula) → IsContext th G → AreClosed th (tys Us) → AreInRow G m Us
      → HasHoles G Us Q → ((K : Context) (ts : Trees) → CoversAll k Us G K ts → Follows th K H (Q ts)) → Follows th G H (Q (row_of m Us))
  cover_list k each [] G m Q closed types row holes go =
      go G tree.none (record { extends = λ m T e. e; closed = closed; typed = tt; made = tt; covered = inl (none, inl refl, tt) })
  cover_list k each (U ∷ Us) G m Q closed types row holes go =
      each U G m (λ x. Q (tree.more x (row_of (suc m) Us))) closed types.0 row.0
      (record {
        into = λ s r t u tm um e. holes.into s r (tree.more t (row_of (suc m) Us)) (tree.more u (row_of (suc m) Us)) (tm, row_made (suc m) Us)
            (um, row_made (suc m) Us) (by.more e (all_kept s r (row_of (suc m) Us)));
        fits = λ K e t h. holes.fits K e (tree.more t (row_of (suc m) Us)) (h, row_typed th K (suc m) Us (row_grows G K (suc m) Us e row.1));
      })
      (λ K x c. cover_list k each Us K (suc m) (λ xs. Q (tree.more x xs)) c.closed types.1 (row_grows G K (suc m) Us c.extends row.1)
      (record {
        into = λ s r ts us tm um e. holes.into s r (tree.more x ts) (tree.more x us) (c.made, tm) (c.made, um) (by.more (by.kept x) e);
        fits = λ L e ts h. holes.fits L (λ i T q. e i T (c.extends i T q)) (tree.more x ts) (typed_grows th K L x U e c.typed, h);
      })
      (λ L xs d. go L (tree.more x xs) (record {
        extends = λ i T q. d.extends i T (c.extends i T q);
        closed = d.closed;
        typed = (typed_grows th K L x U d.extends c.typed, d.typed);
        made = (c.made, d.made);
        covered = joined K L x xs c.covered d.covered d.extends;
      })))
    where
      joined : (K L : Context) (x : Tree) (xs : Trees) → IsCovered th k U K x
          → ((ss : Shapes) × IsAmong ss (products (of_type th.datatypes k) Us) × HaveShapes L ss xs) ⊎ (some_has_chain th xs k Us ≡ true) → Extends K L
          → ((ss : Shapes) × IsAmong ss (products (of_type th.datatypes k) (U ∷ Us)) × HaveShapes L ss (tree.more x xs))
          ⊎ (some_has_chain th (tree.more x xs) k (U ∷ Us) ≡ true)
      joined K L x xs (inr e) d ext = inr (or_left (has_chain th x k U) (some_has_chain th xs k Us) e)
      joined K L x xs (inl a) (inr e) ext = inr (or_right (has_chain th x k U) (some_has_chain th xs k Us) e)
      joined K L x xs (inl a) (inl b) ext =
          inl (more a.0 b.0, in_shapes a.0 b.0 (of_type th.datatypes k U) (products (of_type th.datatypes k) Us) a.1 b.1, (shape_grows K L a.0 x ext a.2, b.2))

  -- a variable of a datatype
  module _ (k : ℕ) (each : CoversType k) (d : ℕ) (Ts : Tys) (G : Context) (n : ℕ) (Q : Tree → Formula) (closed : IsContext th G)
      (is_closed : IsClosed th (applied d Ts)) (place : numbered G n ≡ Some (applied d Ts)) (holes : HasHole th G (applied d Ts) Q)
      (go : (K : Context) (t : Tree) → Covers th (suc k) (applied d Ts) G K t → Follows th K H (Q t)) where
    abbrev at : Constructor → List Ty
    at c = map (instance (elements Ts)) c.arguments

    one_case : (c : ℕ) (y : Constructor) → constructor_at th c ≡ Some (record { datatype = d; constructor = y })
        → ((ss : Shapes) → IsAmong ss (products (of_type th.datatypes k) (at y)) → IsAmong (node c ss) (of_type th.datatypes (suc k) (applied d Ts)))
        → Follows th (G ++ at y) (own_equation G n c (at y) ∷ H) (Q (free n))
    one_case c y there shapes =
        let Us = at y in
        let K = G ++ Us in
        let o : Owned = record { datatype = d; constructor = y } in
        let T = applied d Ts in
        let same : applied d (tys (elements Ts)) ≡ T = ap (applied d) (tys_back Ts) in
        let of_data = closed_data th accepted c o (elements Ts) there (subst (IsClosed th) (sym same) is_closed) in
        let made_typed : (L : Context) (xs : Trees) → AllTyped th L [] xs Us → IsTerm th L (con c xs) T = λ L xs h.
        con_typed th L c xs (elements Ts) T o there of_data.0 (sym same) h in
        let row = new_row G Us in
        let context = closed_both th G Us closed of_data.1 in
        let ext = longer G Us in
        let xs = row_of (next G) Us in
        let inner = cover_list k each Us K (next G) (λ ts. Q (con c ts)) context of_data.1 row
        (record {
          into = λ s r ts us tm um e. holes.into s r (con c ts) (con c us) tm um (by.in_con c e);
          fits = λ L e ts h. holes.fits L (λ i U q. e i U (ext i U q)) (con c ts) (made_typed L ts h);
        })
        (λ L ts v. go L (con c ts) (record {
          extends = λ i U q. v.extends i U (ext i U q);
          closed = v.closed;
          typed = made_typed L ts v.typed;
          made = v.made;
          covered = elim v.covered [
            | inl a ↦ inl (node c a.0, shapes a.0 a.1, (refl, a.2))
            | inr e ↦ inr (ap (λ (z : Option Owned). some_has_chain th ts k (option_map_or (λ (w : Owned). map (instance (elements Ts)) w.constructor.arguments) z [])) there ∙ e)
          ];
        })) in
        let free_typed : IsTerm th K (free n) T = (leaf T, ext n T place, refl) in
        let own : IsFormula th K (own_equation G n c Us) = equated th K (free n) (con c xs) T free_typed (made_typed K xs (row_typed th K (next G) Us row)) in
        replacing th K (holes.into (con c xs) (free n) (con c xs) (free n) (row_made (next G) Us) tt by.here) (holes.fits K ext (free n) free_typed)
        (turned th K (assumed th K context own (inl refl)))
        (widened th K (within_more (own_equation G n c Us) H) inner)

    all_cases : (c : ℕ) (ys : List Constructor)
        → ((j : ℕ) (y : Constructor) → slice_get ys j ≡ Some y → constructor_at th (c + j) ≡ Some (record { datatype = d; constructor = y }))
        → ((s : Shape) → IsAmong s (of_constructors (of_type th.datatypes k) c (map at ys)) → IsAmong s (of_type th.datatypes (suc k) (applied d Ts)))
        → FollowInCases th G n H (Q (free n)) c (map at ys)
    all_cases c [] there shapes = tt
    all_cases c (y ∷ ys) there shapes =
        let o : Owned = record { datatype = d; constructor = y } in
        let here : constructor_at th c ≡ Some o = ap (constructor_at th) (let e : c ≡ c + 0 = omega arith in e) ∙ there 0 y refl in
        let rest = of_constructors (of_type th.datatypes k) (suc c) (map at ys) in (
          one_case c y here (λ ss i. shapes (node c ss)
              (in_first (node c ss) (map (node c) (products (of_type th.datatypes k) (at y))) rest (in_map (node c) ss (products (of_type th.datatypes k) (at y)) i))),
          all_cases (suc c) ys
              (λ j z e. ap (constructor_at th) (let q : suc c + j ≡ c + suc j = omega arith in q) ∙ there (suc j) z e)
              (λ s i. shapes s (in_second s (map (node c) (products (of_type th.datatypes k) (at y))) rest i)),
        )

  cover_data : (k : ℕ) → CoversType k → (d : ℕ) (Ts : Tys) (G : Context) (n : ℕ) (Q : Tree → Formula) → IsContext th G → IsClosed th (applied d Ts)
      → numbered G n ≡ Some (applied d Ts) → HasHole th G (applied d Ts) Q
      → ((K : Context) (t : Tree) → Covers th (suc k) (applied d Ts) G K t → Follows th K H (Q t)) → Follows th G H (Q (free n))
  cover_data k each zero Ts G n Q closed ((x, is, count), parts) place holes go = absurd (none-some x is)
  cover_data k each (suc d) Ts G n Q closed ((x, is, count), parts) place holes go =
      let D = suc d in
      let c = first_constructor th.datatypes D in
      let at = λ (y : Constructor). map (instance (elements Ts)) y.arguments in
      let found : constructor_arguments th D (elements Ts) ≡ map at x.constructors =
      ap (λ (o : Option Datatype). option_map_or (λ (z : Datatype). map at z.constructors) o []) is in
      in_cases th G n H wf (Q (free n)) (holes.fits G (λ i T e. e) (free n) (leaf (applied D Ts), place, refl)) D Ts accepted.well_typed ((x, is, count), parts) place
      (subst (λ l. FollowInCases th G n H (Q (free n)) c l) (sym found)
      (all_cases k each D Ts G n Q closed ((x, is, count), parts) place holes go c x.constructors
      (λ j y e. (numbers_are_places th (c + j) (record { datatype = D; constructor = y })).1 (j, refl, (x, is, e)))
      (λ s i. subst (λ l. IsAmong s (of_constructors (of_type th.datatypes k) c l)) (sym found) i)))

  pub cover_type : (k : ℕ) → CoversType k
  cover_type k nat G n Q closed is place holes go =
      go G (free n) (record { extends = λ i T e. e; closed = closed; typed = (leaf nat, place, refl); made = tt; covered = inl (hole nat, inl refl, place) })
  cover_type k bool G n Q closed is place holes go =
      go G (free n) (record { extends = λ i T e. e; closed = closed; typed = (leaf bool, place, refl); made = tt; covered = inl (hole bool, inl refl, place) })
  cover_type k (parameter m) G n Q closed is place holes go = absurd is
  cover_type k (meta m) G n Q closed is place holes go = absurd is
  cover_type zero (applied d Ts) G n Q closed is place holes go =
      go G (free n) (record { extends = λ i T e. e; closed = closed; typed = (leaf (applied d Ts), place, refl); made = tt; covered = inr refl })
  cover_type (suc k) (applied d Ts) G n Q closed is place holes go = cover_data k (cover_type k) d Ts G n Q closed is place holes go

pub cover_is_derivable : CoverIsDerivable
cover_is_derivable th H accepted wf k T G n Q closed is place holes go = cover_type th H accepted wf k T G n Q closed is place holes go
