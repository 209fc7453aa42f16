-- The rules on datatypes, as the code takes them apart.
use Rattle.std.proofs.Common.{ℕ, zero, suc, ◌≡◌, ◌≢◌, ◌≤◌, Bool, true, false, List, [], ◌∷◌, length, map, Option, Some, None, refl, sym, ◌∙◌, ap}
use Rattle.std.specs.Prelude.{slice_get, option_map}
use Rattle.std.proofs.lemmas.Option.{slice_get-map}
use Rattle.tg_accept.proofs.KeptTypes.{elements_tys}
use Rattle.tg_model.specs.Tree.{Trees, trees}
use Rattle.tg_model.specs.Types.{Ty, Tys, applied, elements, tys}
use Rattle.tg_model.specs.Formula.{Formula, Sequent}
use Rattle.tg_model.specs.Formula as formula
use Rattle.tg_model.specs.Theory.{Theory, numbered, first_constructor}
use Rattle.tg_model.specs.TermTyping.{constructor_arguments}
use Rattle.tg_rows.specs.Parts.{and_then}
use Rattle.tg_types.specs.declared.types.Ty as declared
use Rattle.tg_types.specs.Types.{ty, types}
use Rattle.tg_calculus.specs.Sequent.{Context, ◌│◌⊢◌}
use Rattle.tg_calculus.specs.Chains.{some_has_chain}
use Rattle.tg_calculus.specs.Rule as rule
use Rattle.tg_calculus.specs.Draft.{Draft, draft, always, given, closed, formed, exhausts, before_first, as_data}
use Rattle.tg_kernel.specs.Sequents.{sequent}
use Rattle.tg_kernel.specs.declared.sequents.Sequent as premise

type_there : (ts : List declared.Ty) (n : ℕ) (t : declared.Ty) → Some t ≡ numbered ts n → Some (ty t) ≡ numbered (map ty ts) n
type_there ts zero t e = cc e
type_there ts (suc n) t e = ap (option_map ty) e ∙ sym (slice_get-map ty ts n)

type_absent : (ts : List declared.Ty) (n : ℕ) → None ≡ numbered ts n → None ≡ numbered (map ty ts) n
type_absent ts zero e = refl
type_absent ts (suc n) e = ap (option_map ty) e ∙ sym (slice_get-map ty ts n)

-- the type of a variable, taken apart
pub data_there : (ts : List declared.Ty) (n : ℕ) (t : declared.Ty) (o : Option (ℕ × Tys)) (G : Context) → Some t ≡ numbered ts n → map ty ts ≡ G
    → o ≡ as_data (ty t) → o ≡ and_then (numbered G n) as_data
data_there ts n t o G e v is =
    is ∙ ap (λ x. and_then x as_data) (type_there ts n t e) ∙ ap (λ (K : Context). and_then (numbered K n) as_data) v

pub data_absent : (ts : List declared.Ty) (n : ℕ) (G : Context) → None ≡ numbered ts n → map ty ts ≡ G → None ≡ and_then (numbered G n) as_data
data_absent ts n G e v = ap (λ o. and_then o as_data) (type_absent ts n e) ∙ ap (λ (K : Context). and_then (numbered K n) as_data) v

pub ruleset looking = (data_there, data_absent)

module _ (th : Theory) (n : ℕ) where
  abbrev Exhausted : Sequent → List Sequent → ℕ × Tys → Option Draft
  Exhausted p ps d = exhausts n (first_constructor th.datatypes d.0) (constructor_arguments th d.0 (elements d.1))
      (before_first p.vars (constructor_arguments th d.0 (elements d.1))) p.goal ps

  flat : (p : Sequent) (ps : List Sequent) (o : Option Ty)
      → and_then (and_then o as_data) (Exhausted p ps) ≡ and_then o (λ T. and_then (as_data T) (Exhausted p ps))
  flat p ps None = refl
  flat p ps (Some T) = refl

  drawn : (all : List premise.Sequent) (p : premise.Sequent) → slice_get all 0 ≡ Some p
      → and_then (and_then (numbered p.vars n) as_data) (Exhausted (sequent p) (map sequent all)) ≡ draft th (rule.exhaust n) (map sequent all)
  drawn [] p e = cc e
  drawn (q ∷ all) p e =
      let a : q ≡ p = cc e in
      ap (λ (x : premise.Sequent). and_then (and_then (numbered x.vars n) as_data) (Exhausted (sequent x) (map sequent (q ∷ all)))) (sym a)
      ∙ flat (sequent q) (map sequent (q ∷ all)) (numbered q.vars n)

  pub at_data : (all : List premise.Sequent) (p : premise.Sequent) (d : ℕ) (us : List declared.Ty) (first : ℕ) (cases : List (List Ty)) (o : Option Draft)
      → slice_get all 0 ≡ Some p → Some (d, types us) ≡ and_then (numbered p.vars n) as_data → first ≡ first_constructor th.datatypes d
      → cases ≡ constructor_arguments th d (map ty us) → o ≡ exhausts n first cases (before_first p.vars cases) p.goal (map sequent all)
      → o ≡ draft th (rule.exhaust n) (map sequent all)
  at_data all p d us first cases o e is f c h =
      let k : cases ≡ constructor_arguments th d (elements (types us)) = c ∙ ap (constructor_arguments th d) (sym (elements_tys (map ty us))) in
      h ∙ (λ i. exhausts n (f i) (k i) (before_first p.vars (k i)) p.goal (map sequent all))
      ∙ ap (λ x. and_then x (Exhausted (sequent p) (map sequent all))) is ∙ drawn all p e

  pub at_none : (all : List premise.Sequent) (p : premise.Sequent) → slice_get all 0 ≡ Some p → None ≡ and_then (numbered p.vars n) as_data
      → None ≡ draft th (rule.exhaust n) (map sequent all)
  at_none all p e is = ap (λ x. and_then x (Exhausted (sequent p) (map sequent all))) is ∙ drawn all p e

pub ruleset exhausting = (at_data, at_none)

module _ (th : Theory) (G : Context) (ts : Trees) where
  pub deep_none : (k : ℕ) → k ≡ 0 → None ≡ draft th (rule.deep G k ts) []
  deep_none k e = ap (λ n. draft th (rule.deep G n ts) []) (sym e)

  pub deep_draft : (k : ℕ) → k ≢ 0 → given (some_has_chain th ts k th.program.inputs) (closed G ∷ formed G (formula.deep k ts) ∷ []) (G │ [] ⊢ formula.deep k ts)
      ≡ draft th (rule.deep G k ts) []
  deep_draft zero h = absurd (h refl)
  deep_draft (suc k) h = refl

  pub deep_is : (k : ℕ) (b : Bool) (o : Option Draft) → k ≢ 0 → b ≡ some_has_chain th ts k th.program.inputs → b ≡ true
      → o ≡ always (closed G ∷ formed G (formula.deep k ts) ∷ []) (G │ [] ⊢ formula.deep k ts) → o ≡ draft th (rule.deep G k ts) []
  deep_is k b o n e t h =
      h ∙ ap (λ c. given c (closed G ∷ formed G (formula.deep k ts) ∷ []) (G │ [] ⊢ formula.deep k ts)) (sym t ∙ e) ∙ deep_draft k n

  pub deep_not : (k : ℕ) (b : Bool) → k ≢ 0 → b ≡ some_has_chain th ts k th.program.inputs → b ≡ false → None ≡ draft th (rule.deep G k ts) []
  deep_not k b n e t =
      ap (λ c. given c (closed G ∷ formed G (formula.deep k ts) ∷ []) (G │ [] ⊢ formula.deep k ts)) (sym t ∙ e) ∙ deep_draft k n

pub ruleset deeper = (deep_none, deep_is, deep_not)
