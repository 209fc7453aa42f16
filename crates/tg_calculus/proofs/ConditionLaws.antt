-- What the conditions of the rules mean: hypotheses as sets, and terms that have a type.
use Rattle.std.proofs.Common.{◌≡◌, ◌≢◌, Bool, true, false, [], ◌∷◌, map, refl, sym, ◌∙◌, ◌⊎◌, inl, inr}
use Rattle.tg_model.specs.Tree.{Tree, equality}
use Rattle.tg_model.specs.Types.{Ty, bool}
use Rattle.tg_model.specs.Formula.{atom}
use Rattle.tg_model.specs.Theory.{Theory}
use Rattle.tg_model.specs.Typing.{AreTyped, least}
use Rattle.tg_model.specs.TermTyping.{compound, none, more, type_of}
use Rattle.tg_model.specs.Uses.{uses}
use Rattle.tg_model.specs.Accepted.{IsAccepted, IsAmong}
use Rattle.tg_model.proofs.Contexts.{types_depend_on_used, used_have_types, contexts_grow_form}
use Rattle.tg_model.proofs.Constructors.{least_has_its_type}
use Rattle.tg_rows.specs.Laws.{Setting}
use Rattle.tg_rows.proofs.AllRows.{rows_keep}
use Rattle.tg_calculus.specs.Sequent.{Context, equation, ◌∪◌, ◌∖◌}
use Rattle.tg_calculus.specs.Step.{IsContext, IsFormula, IsTerm}
use Rattle.tg_calculus.specs.Laws.{JoinedIsUnion, LeftIsDifference, ReflexiveIsTyped, SchemaIsTyped, EmptyHasNoVariable}
use Rattle.tg_calculus.proofs.Hypotheses.{each_joined, of_joined, of_left}
use Rattle.tg_calculus.proofs.Formed.{operands}
use Rattle.tg_calculus.proofs.Computed.{no_place}
use Rattle.tg_calculus.proofs.SetLaws.{among_each, each_among, each_other}

pub joined_is_union : JoinedIsUnion
joined_is_union H K F = (
  λ i. among_each (λ Q. IsAmong Q H ⊎ IsAmong Q K) (H ∪ K) F
      (each_joined (λ Q. IsAmong Q H ⊎ IsAmong Q K) H K (each_among (λ Q. IsAmong Q H ⊎ IsAmong Q K) H (λ Q j. inl j))
      (each_among (λ Q. IsAmong Q H ⊎ IsAmong Q K) K (λ Q j. inr j))) i,
  λ i.
      let all = of_joined (λ Q. IsAmong Q (H ∪ K)) H K (each_among (λ Q. IsAmong Q (H ∪ K)) (H ∪ K) (λ Q j. j)) in
      elim i [ inl j ↦ among_each (λ Q. IsAmong Q (H ∪ K)) H F all.0 j | inr j ↦ among_each (λ Q. IsAmong Q (H ∪ K)) K F all.1 j ],
)

pub left_is_difference : LeftIsDifference
left_is_difference H Q F = (
  λ i. among_each (λ G. IsAmong G H × (G ≢ Q)) (H ∖ Q) F (each_other (λ G. IsAmong G H) H Q (each_among (λ G. IsAmong G H) H (λ G j. j))) i,
  λ p.
      let all = of_left (λ G. (G ≡ Q) ⊎ IsAmong G (H ∖ Q)) H Q (inl refl) (each_among (λ G. (G ≡ Q) ⊎ IsAmong G (H ∖ Q)) (H ∖ Q) (λ G j. inr j)) in
      elim (among_each (λ G. (G ≡ Q) ⊎ IsAmong G (H ∖ Q)) H F all p.0) [ inl e ↦ absurd (p.1 e) | inr j ↦ j ],
)

equated : (th : Theory) (G : Context) (t u : Tree) (T : Ty) → IsTerm th G t T → IsTerm th G u T → IsFormula th G (equation t u)
equated th G t u T (d, h, e) (d', h', e') = (compound bool (more d (more d' none)), (((T, λ i. e i ∷ e' i ∷ []), refl), (h, (h', tt))), refl)

left_typed : (th : Theory) (G : Context) (t u : Tree) → IsFormula th G (equation t u) → (T : Ty) × IsTerm th G t T
left_typed th G t u (d, h, e) = let o = operands th G equality t u d h in (type_of o.left, (o.left, o.left_is, refl))

pub reflexive_is_typed : ReflexiveIsTyped
reflexive_is_typed th G t = (λ f. left_typed th G t t f, λ p. equated th G t t p.0 p.1 p.1)

least_values : (th : Theory) → IsAccepted th → (G : Context) → IsContext th G → AreTyped th (map (least th) G) G
least_values th accepted [] h = tt
least_values th accepted (T ∷ G) h = (least_has_its_type th accepted.well_typed T h.0, least_values th accepted G h.1)

pub schema_is_typed : SchemaIsTyped
schema_is_typed th accepted G closed k t u applies = (
  λ f. left_typed th G t u f,
  λ p.
      let setting : Setting th = record {
        table = [];
        is_table = tt;
        vars = G;
        locs = [];
        env = map (least th) G;
        loc = [];
        closed_vars = closed;
        closed_locs = tt;
        typed_env = least_values th accepted G closed;
        typed_loc = tt;
      } in
      equated th G t u p.0 p.1 (rows_keep th accepted.well_typed setting k t u p.0 applies p.1).1,
)

no_variable : (b : Bool) → ¬ (b ≡ true) → b ≡ false
no_variable true n = absurd (n refl)
no_variable false n = refl

pub empty_has_no_variable : EmptyHasNoVariable
empty_has_no_variable th G t = (
  λ f. (contexts_grow_form th [] G [] [] (atom t) f, λ n. no_variable (uses n t) (λ e. let q = used_have_types th [] [] t bool f n e in no_place q.0 n q.1)),
  λ p. types_depend_on_used th G [] [] t bool (λ n e. let q : true ≡ false = sym e ∙ p.1 n in cc q) p.0,
)
