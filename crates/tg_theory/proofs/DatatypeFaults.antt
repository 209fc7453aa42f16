-- The first fault of a datatype.
use Rattle.std.proofs.Common.{ℕ, suc, ◌≡◌, ◌+◌, true, false, List, [], ◌∷◌, map, length, Option, Some, None, refl, sym, ◌∙◌, ap, subst, arith, if◌then◌else◌}
use Rattle.std.specs.Option.{option_map_or}
use Rattle.tg_model.specs.Theory.{Datatype, Constructor}
use Rattle.tg_accept.specs.Declared.{Declared}
use Rattle.tg_accept.specs.Kept.{names_of_types, names_of_values}
use Rattle.tg_accept.specs.Faults.{Fault, name, shape, is_taken, first_taken, is_datatype_shaped, datatype_fault}
use Rattle.tg_declarations.specs.declared.definitions.ConDef.{ConDef}
use Rattle.tg_declarations.specs.declared.definitions.DataDef.{DataDef}
use Rattle.tg_declarations.specs.View.{constructor, datatype}
use Rattle.tg_theory.specs.Names.{HaveSameNames}
use Rattle.tg_theory.specs.Taking.{constructor_names, name_fault}
use Rattle.tg_theory.specs.Causes.{IsCause}
use Rattle.tg_theory.specs.declared.errors.BuildErr.{BuildErr}
use Rattle.tg_theory.specs.declared.errors.BuildErr.TheVariants.{Name, Shape, Program, Memory}
use Rattle.tg_theory.proofs.Taken.{first_same}

pub names_seen : (cs : List ConDef) → map (λ (c : Constructor). c.name) (map constructor cs) ≡ constructor_names cs
names_seen [] = refl
names_seen (c ∷ cs) = ap (λ l. c.name ∷ l) (names_seen cs)

cause_then : (o : Option (List ℕ)) (rest : Option Fault) (e : BuildErr) → IsCause (name_fault o) e → IsCause (option_map_or (λ y. Some (name y)) o rest) e
cause_then o rest Memory h = tt
cause_then None rest (Name x) h = cc h
cause_then None rest Shape h = cc h
cause_then None rest Program h = cc h
cause_then (Some y) rest (Name x) h = h
cause_then (Some y) rest Shape h = cc h
cause_then (Some y) rest Program h = cc h

module _ (D : Declared) (def : DataDef) (types values : List (List ℕ)) (same_types : HaveSameNames types (names_of_types D)) (same_values : HaveSameNames values (names_of_values D)) where
  abbrev x : Datatype
  x = datatype def

  abbrev behind : Option Fault
  behind = option_map_or (λ y. Some (name y)) (first_taken (names_of_values D) (map (λ (c : Constructor). c.name) x.constructors))
      (if is_datatype_shaped (suc (length D.datatypes)) x then None else Some shape)

  firsts : first_taken values (constructor_names def.cons) ≡ first_taken (names_of_values D) (map (λ (c : Constructor). c.name) x.constructors)
  firsts = first_same values (names_of_values D) (constructor_names def.cons) same_values ∙ ap (first_taken (names_of_values D)) (sym (names_seen def.cons))

  pub taken_type : is_taken def.name types ≡ true → datatype_fault D x ≡ Some (name def.name)
  taken_type e = ap (λ b. if b then Some (name def.name) else behind) (sym (same_types def.name) ∙ e)

  free_type : is_taken def.name types ≡ false → datatype_fault D x ≡ behind
  free_type e = ap (λ b. if b then Some (name def.name) else behind) (sym (same_types def.name) ∙ e)

  pub taken_constructor : (e : BuildErr) → is_taken def.name types ≡ false → IsCause (name_fault (first_taken values (constructor_names def.cons))) e
      → IsCause (datatype_fault D x) e
  taken_constructor e free h =
      subst (λ o. IsCause o e) (sym (free_type free))
      (cause_then (first_taken (names_of_values D) (map (λ (c : Constructor). c.name) x.constructors)) (if is_datatype_shaped (suc (length D.datatypes)) x then None else Some shape) e
      (subst (λ o. IsCause (name_fault o) e) firsts h))

  free_names : is_taken def.name types ≡ false → first_taken values (constructor_names def.cons) ≡ None
      → datatype_fault D x ≡ (if is_datatype_shaped (suc (length D.datatypes)) x then None else Some shape)
  free_names free none =
      free_type free ∙ ap (λ o. option_map_or (λ y. Some (name y)) o (if is_datatype_shaped (suc (length D.datatypes)) x then None else Some shape)) (sym firsts ∙ none)

  pub no_datatype_shape : is_taken def.name types ≡ false → first_taken values (constructor_names def.cons) ≡ None
      → is_datatype_shaped (length D.datatypes + 1) x ≡ false → datatype_fault D x ≡ Some shape
  no_datatype_shape free none e =
      let n : length D.datatypes + 1 ≡ suc (length D.datatypes) = omega arith in
      free_names free none ∙ ap (λ b. if b then None else Some shape) (ap (λ k. is_datatype_shaped k x) (sym n) ∙ e)

  pub right_datatype : is_taken def.name types ≡ false → first_taken values (constructor_names def.cons) ≡ None
      → is_datatype_shaped (length D.datatypes + 1) x ≡ true → datatype_fault D x ≡ None
  right_datatype free none e =
      let n : length D.datatypes + 1 ≡ suc (length D.datatypes) = omega arith in
      free_names free none ∙ ap (λ b. if b then None else Some shape) (ap (λ k. is_datatype_shaped k x) (sym n) ∙ e)

pub ruleset faults = (taken_type, taken_constructor, no_datatype_shape, right_datatype)
