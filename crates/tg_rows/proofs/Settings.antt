-- Typed terms in a setting: what values they have, and the types of operands.
use Rattle.std.proofs.Common.{ℕ, ◌≡◌, Bool, List, [], ◌∷◌, Option, Some, refl, sym, ◌∙◌, ap, subst}
use Rattle.tg_model.specs.Tree as tree
use Rattle.tg_model.specs.Tree.{Tree, Trees, truth, literal, choice, op, one, two, Operator}
use Rattle.tg_model.specs.Types.{Ty, nat, bool}
use Rattle.tg_model.specs.Value.{Value, number, boolean}
use Rattle.tg_model.specs.Theory.{Theory, instance}
use Rattle.tg_model.specs.Typing.{HasType, AreTyped}
use Rattle.tg_model.specs.Denotation.{den}
use Rattle.tg_model.specs.TermTyping.{leaf, compound, none, more, type_of, IsOperation, IsTyped}
use Rattle.tg_model.specs.WellTyped.{IsWellTyped}
use Rattle.tg_model.proofs.Inhabited.{list_closed_instance}
use Rattle.tg_model.proofs.Inversions.{unary, binary, conditional}
use Rattle.tg_model.proofs.ValueTyping.{is_boolean, is_number}
use Rattle.tg_model.proofs.CallSoundness.{soundness_at_instances}
use Rattle.tg_rows.specs.Laws.{Setting}

module _ (th : Theory) (wt : IsWellTyped th) (n : Setting th) where
  abbrev pub value : Tree → Value
  value t = den th n.table n.env n.loc t

  abbrev pub Typed : Tree → Ty → Type 0
  Typed t a = IsTyped th n.vars n.locs t a

  -- the value of a typed term, at the instance without types for parameters
  pub has_type : (t : Tree) (a : Ty) → Typed t a → HasType th (value t) (instance [] a)
  has_type t a h =
      soundness_at_instances th n.table wt n.is_table [] n.vars n.locs n.env n.loc t a
      (subst (λ (ts : List Ty). AreTyped th n.env ts) (sym (list_closed_instance th [] n.vars n.closed_vars)) n.typed_env)
      (subst (λ (ts : List Ty). AreTyped th n.loc ts) (sym (list_closed_instance th [] n.locs n.closed_locs)) n.typed_loc) h

  pub boolean_value : (t : Tree) → Typed t bool → (b : Bool) × (value t ≡ boolean b)
  boolean_value t h = is_boolean th (value t) (has_type t bool h)

  pub number_value : (t : Tree) → Typed t nat → (m : ℕ) × (value t ≡ number m)
  number_value t h = is_number th (value t) (has_type t nat h)

  pub one_typed : (o : Operator) (t : Tree) (a : Ty) → Typed (op o (one t)) a → (s : Ty) × Typed t s × IsOperation o (s ∷ []) a
  one_typed o t a (d, h, e) = unary th n.vars n.locs o t d h (λ x p r. (type_of x, (x, p, refl), subst (λ (b : Ty). IsOperation o (type_of x ∷ []) b) e r))

  pub two_typed : (o : Operator) (t u : Tree) (a : Ty) → Typed (op o (two t u)) a
      → (s r : Ty) × Typed t s × Typed u r × IsOperation o (s ∷ r ∷ []) a
  two_typed o t u a (d, h, e) = binary th n.vars n.locs o t u d h (λ x y p q r.
      (type_of x, type_of y, (x, p, refl), (y, q, refl), subst (λ (b : Ty). IsOperation o (type_of x ∷ type_of y ∷ []) b) e r))

  pub if_typed : (t u v : Tree) (a : Ty) → Typed (choice (tree.more t (two u v))) a → Typed t bool × Typed u a × Typed v a
  if_typed t u v a (d, h, e) = conditional th n.vars n.locs t u v d h (λ x y z p q r s. ((x, p, s.0), (y, q, s.1 ∙ e), (z, r, s.2 ∙ e)))

  pub truth_typed : (b : Bool) → Typed (truth b) bool
  truth_typed b = (leaf bool, refl, refl)

  pub literal_typed : (m : ℕ) → Typed (literal m) nat
  literal_typed m = (leaf nat, refl, refl)

  pub op_one : (o : Operator) (t : Tree) (s a : Ty) → Typed t s → IsOperation o (s ∷ []) a → Typed (op o (one t)) a
  op_one o t s a (d, h, e) r = (compound a (more d none), (subst (λ (b : Ty). IsOperation o (b ∷ []) a) (sym e) r, (h, tt)), refl)

  pub op_two : (o : Operator) (t u : Tree) (s r a : Ty) → Typed t s → Typed u r → IsOperation o (s ∷ r ∷ []) a → Typed (op o (two t u)) a
  op_two o t u s r a (d, h, e) (d', h', e') k = (
    compound a (more d (more d' none)),
    (subst (λ (b : Ty). IsOperation o (b ∷ type_of d' ∷ []) a) (sym e) (subst (λ (b : Ty). IsOperation o (s ∷ b ∷ []) a) (sym e') k), (h, (h', tt))),
    refl,
  )

  -- what a row keeps
  abbrev pub Kept : Tree → Tree → Ty → Type 0
  Kept t u a = (value t ≡ value u) × Typed u a

  abbrev pub Keeps : (Tree → Option Tree) → Type 0
  Keeps f = (t u : Tree) (a : Ty) → f t ≡ Some u → Typed t a → Kept t u a

  -- a term is of a form, and what it becomes is another: what is kept from form to form
  pub through : (t t' u u' : Tree) (a : Ty) → t ≡ t' → u' ≡ u → (Typed t' a → Kept t' u' a) → Typed t a → Kept t u a
  through t t' u u' a e f keep h =
      let k = keep (subst (λ (x : Tree). Typed x a) e h) in
      (ap value e ∙ (k.0 ∙ ap value f), subst (λ (x : Tree). Typed x a) f k.1)
