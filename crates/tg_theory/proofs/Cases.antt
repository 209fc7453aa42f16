-- When a primitive recursive function has its shape.
use Rattle.std.proofs.Common.{ℕ, zero, suc, ◌≡◌, ◌+◌, ◌-◌, Bool, true, false, nat_eq, List, [], ◌∷◌, length, take, drop, map, Option, Some, None, refl, sym, ◌∙◌, ap, arith}
use Rattle.std.specs.Prelude.{option_map}
use Rattle.std.specs.Option.{option_map_or}
use Rattle.std.proofs.lemmas.Option.{slice_get-map, slice_get_within}
use Rattle.std.proofs.lemmas.List.{length-append, length-map, length-take, length-drop}
use Rattle.tg_model.specs.Tree.{Tree}
use Rattle.tg_model.specs.Types as types
use Rattle.tg_model.specs.Types.{nat, applied, bool, parameter, meta}
use Rattle.tg_model.specs.Theory as model
use Rattle.tg_model.specs.Theory.{Constructor, numbered, datatype_of}
use Rattle.tg_model.specs.Denotation.{others}
use Rattle.tg_types.specs.declared.types.Ty.{Ty}
use Rattle.tg_types.specs.Types.{ty}
use Rattle.tg_accept.specs.Declared.{Declared}
use Rattle.tg_accept.specs.Faults.{recursive_arguments, are_cases_shaped, is_body_shaped}
use Rattle.tg_declarations.specs.declared.definitions.ConDef.{ConDef}
use Rattle.tg_declarations.specs.declared.definitions.DataDef.{DataDef}
use Rattle.tg_declarations.specs.declared.definitions.FunDef.{FunDef}
use Rattle.tg_declarations.specs.View.{constructor, datatype, function}
use Rattle.tg_theory.specs.Matched.{recursive_of}

at_number : (ts : List Ty) (n : ℕ) → numbered (map ty ts) n ≡ option_map ty (numbered ts n)
at_number ts zero = refl
at_number ts (suc n) = slice_get-map ty ts n

-- all arguments but one
one_fewer : (ts : List types.Ty) (n : ℕ) (t : types.Ty) → numbered ts n ≡ Some t → length (others ts n) ≡ length ts - 1
one_fewer ts zero t e = cc e
one_fewer ts (suc k) t e =
    let low = slice_get_within ts k t e in
    let sum = length-append (take (suc k - 1) ts) (drop (suc k) ts) in
    let front = length-take (suc k - 1) ts in
    let rest = length-drop (suc k) ts in
    omega (arith, sum, front, rest, low)

recursive_ones : (d : ℕ) (cs : List ConDef)
    → map (λ (c : Constructor). map (λ t. nat_eq (datatype_of t) d) c.arguments) (map constructor cs) ≡ map (recursive_of d) cs
recursive_ones d [] = refl
recursive_ones d (c ∷ cs) = λ i. arguments c.args i ∷ recursive_ones d cs i
  where
    arguments : (ts : List Ty) → map (λ t. nat_eq (datatype_of t) d) (map ty ts) ≡ map (λ t. nat_eq (datatype_of (ty t)) d) ts
    arguments [] = refl
    arguments (t ∷ ts) = ap (λ l. nat_eq (datatype_of (ty t)) d ∷ l) (arguments ts)

module _ (D : Declared) (def : FunDef) (self place : ℕ) (cases : List Tree) (number : self ≡ length D.functions + 1) where
  abbrev Right : ℕ → ℕ → List (List Bool) → Bool
  Right f start ls = are_cases_shaped f place start cases ls

  abbrev By : Option types.Ty → Bool
  By o = option_map_or (λ t. option_map_or (Right (suc (length D.functions)) (length (others (map ty def.args) place))) (recursive_arguments D.datatypes t) false) o false

  pub shape_absent : None ≡ numbered def.args place → false ≡ is_body_shaped D (function def) (model.recursive place cases)
  shape_absent e = sym (ap By (at_number def.args place ∙ ap (option_map ty) (sym e)))

  module _ (t : Ty) (at : Some t ≡ numbered def.args place) where
    found : numbered (map ty def.args) place ≡ Some (ty t)
    found = at_number def.args place ∙ ap (option_map ty) (sym at)

    start : length def.args - 1 ≡ length (others (map ty def.args) place)
    start =
        let fewer = one_fewer (map ty def.args) place (ty t) found in
        let many = length-map def.args ty in
        omega (arith, fewer, many)

    next : self ≡ suc (length D.functions)
    next = omega (arith, number)

    pub shape_of : (ls : List (List Bool)) → recursive_arguments D.datatypes (ty t) ≡ Some ls
        → Right self (length def.args - 1) ls ≡ is_body_shaped D (function def) (model.recursive place cases)
    shape_of ls e =
        ap (λ f. Right f (length def.args - 1) ls) next
        ∙ ap (λ s. Right (suc (length D.functions)) s ls) start
        ∙ sym (ap (λ o. option_map_or (Right (suc (length D.functions)) (length (others (map ty def.args) place))) o false) e)
        ∙ sym (ap By found)

    pub shape_not : recursive_arguments D.datatypes (ty t) ≡ None → false ≡ is_body_shaped D (function def) (model.recursive place cases)
    shape_not e =
        sym (ap (λ o. option_map_or (Right (suc (length D.functions)) (length (others (map ty def.args) place))) o false) e)
        ∙ sym (ap By found)

    -- a type without constructors
    pub shape_plain : (u : types.Ty) → ty t ≡ u → recursive_arguments D.datatypes u ≡ None → false ≡ is_body_shaped D (function def) (model.recursive place cases)
    shape_plain u q e = shape_not (ap (recursive_arguments D.datatypes) q ∙ e)

    pub shape_natural : ty t ≡ nat → Right self (length def.args - 1) ([] ∷ (true ∷ []) ∷ []) ≡ is_body_shaped D (function def) (model.recursive place cases)
    shape_natural q = shape_of ([] ∷ (true ∷ []) ∷ []) (ap (recursive_arguments D.datatypes) q)

    pub shape_data : (d : ℕ) (us : types.Tys) (data_def : DataDef) → ty t ≡ applied d us → Some (datatype data_def) ≡ numbered D.datatypes d
        → Right self (length def.args - 1) (map (recursive_of d) data_def.cons) ≡ is_body_shaped D (function def) (model.recursive place cases)
    shape_data d us data_def q e =
        let flags : model.Datatype → Option (List (List Bool)) =
        λ x. Some (map (λ (c : Constructor). map (λ t. nat_eq (datatype_of t) d) c.arguments) x.constructors) in
        shape_of (map (recursive_of d) data_def.cons)
        (ap (recursive_arguments D.datatypes) q ∙ ap (λ o. option_map_or flags o None) (sym e) ∙ ap Some (recursive_ones d data_def.cons))

    pub shape_no_data : (d : ℕ) (us : types.Tys) → ty t ≡ applied d us → None ≡ numbered D.datatypes d
        → false ≡ is_body_shaped D (function def) (model.recursive place cases)
    shape_no_data d us q e =
        let flags : model.Datatype → Option (List (List Bool)) =
        λ x. Some (map (λ (c : Constructor). map (λ t. nat_eq (datatype_of t) d) c.arguments) x.constructors) in
        shape_not (ap (recursive_arguments D.datatypes) q ∙ ap (λ o. option_map_or flags o None) (sym e))

pub ruleset recursion = (shape_absent, shape_plain, shape_natural, shape_data, shape_no_data)
