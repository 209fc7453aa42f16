-- What holds of all that is declared so far, if each declaration was accepted: what an accepted theory keeps, but for what is
-- still missing.
use Rattle.std.specs.Prelude.{ℕ, suc, ◌≡◌, ◌<◌, ◌≤◌, List, [], ◌∷◌, ◌++◌, map, length, Option, Some, None, slice_get}
use Rattle.tg_model.specs.Tree.{Tree, trees}
use Rattle.tg_model.specs.Types.{bool, tys}
use Rattle.tg_model.specs.Theory.{Theory, Datatype, Function, Program, numbered, IsClosed, AreClosed}
use Rattle.tg_model.specs.TermTyping.{IsTyped}
use Rattle.tg_model.specs.WellTyped.{IsInhabited, IsBody}
use Rattle.tg_model.specs.Calls.{EachPut}
use Rattle.tg_model.specs.Accepted.{AreDistinct, constructor_names, variables_from, AreConstructors, IsFunction}
use Rattle.tg_accept.specs.Declared.{Declared, theory}

abbrev pub names_of_types : Declared → List (List ℕ)
names_of_types D = map (λ (x : Datatype). x.name) D.datatypes

abbrev pub name_of_program : Option Program → List (List ℕ)
name_of_program None = []
name_of_program (Some p) = p.name ∷ []

-- the names of constructors, functions and the program are one space
abbrev pub names_of_values : Declared → List (List ℕ)
names_of_values D = constructor_names D.datatypes ++ (map (λ (x : Function). x.name) D.functions ++ name_of_program D.program)

pub record IsProgram (th : Theory) (p : Program) : Type 0 where
  pub inputs : AreClosed th (tys p.inputs)
  pub answer : IsClosed th p.answer
  pub some_input : 0 < length p.inputs
  pub few_inputs : length p.inputs ≤ 8

-- a condition on the program's inputs, which calls the program on these alone, in their order
pub record IsSpecification (th : Theory) (p : Program) (t : Tree) : Type 0 where
  pub typed : IsTyped th p.inputs [] t bool
  pub calls : EachPut (λ ts. ts ≡ trees (variables_from 1 (length p.inputs))) t

abbrev pub IsSpecified : Theory → Option Program → Tree → Type 0
IsSpecified th None t = ⊥
IsSpecified th (Some p) t = IsSpecification th p t

pub record IsKept (D : Declared) : Type 0 where
  pub types_differ : AreDistinct (names_of_types D)
  pub names_differ : AreDistinct (names_of_values D)
  pub datatypes : (d : ℕ) (x : Datatype) → slice_get D.datatypes d ≡ Some x
      → IsInhabited (theory [] D) (suc d) x × AreConstructors (theory [] D) (suc d) x.parameters x.constructors
  pub functions : (n : ℕ) (x : Function) → numbered D.functions n ≡ Some x → IsBody (theory [] D) n x x.body × IsFunction (theory [] D) n x
  pub program : (p : Program) → D.program ≡ Some p → IsProgram (theory [] D) p
  pub specification : (t : Tree) → D.specification ≡ Some t → IsSpecified (theory [] D) D.program t
