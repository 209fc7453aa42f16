-- What an accepted theory keeps: all that acceptance asks, but for the text that it was read from, and that no other typing
-- would do.
use Rattle.std.specs.Prelude.{ℕ, zero, suc, false, ◌≡◌, ◌<◌, ◌≤◌, ◌⊎◌, ◌++◌, List, [], ◌∷◌, map, length, slice_get}
use Rattle.std.specs.Prelude.{Some}
use Rattle.tg_model.specs.Tree as tree
use Rattle.tg_model.specs.Tree.{Tree, Trees, Arms, bound, free, literal, truth, con, call, put, choice, case, bind, op, trees}
use Rattle.tg_model.specs.Types.{Ty, parameter, applied, tys}
use Rattle.tg_model.specs.Theory.{Theory, Datatype, Constructor, Function, Body, plain, recursive, numbered}
use Rattle.tg_model.specs.Denotation.{others}
use Rattle.tg_model.specs.TermTyping.{Typing, Typings, ArmTypings, instanced, compound, branching, binding, more, arm, type_of, IsTyping, datatype_at, constructor_arguments}
use Rattle.tg_model.specs.WellTyped.{IsBefore, AreBefore, IsWellTyped}
use Rattle.tg_model.specs.Calls.{has_call, EachPut}

abbrev pub IsAmong : {A : Type 0} → A → List A → Type 0
IsAmong x [] = ⊥
IsAmong x (y ∷ ys) = (x ≡ y) ⊎ IsAmong x ys

abbrev pub AreDistinct : {A : Type 0} → List A → Type 0
AreDistinct [] = Unit {0}
AreDistinct (x ∷ xs) = (¬ (IsAmong x xs)) × AreDistinct xs

abbrev pub type_names : Theory → List (List ℕ)
type_names th = map (λ (x : Datatype). x.name) th.datatypes

abbrev pub constructor_names : List Datatype → List (List ℕ)
constructor_names [] = []
constructor_names (x ∷ xs) = map (λ (c : Constructor). c.name) x.constructors ++ constructor_names xs

-- the names of constructors, functions and the program are one space
abbrev pub value_names : Theory → List (List ℕ)
value_names th = constructor_names th.datatypes ++ (map (λ (x : Function). x.name) th.functions ++ th.program.name ∷ [])

-- the parameters of a declaration in order, `count` of them from number `n`
abbrev pub parameters_from : ℕ → ℕ → List Ty
parameters_from n zero = []
parameters_from n (suc count) = parameter n ∷ parameters_from (suc n) count

abbrev pub variables_from : ℕ → ℕ → List Tree
variables_from n zero = []
variables_from n (suc count) = free n ∷ variables_from (suc n) count

-- An argument of a constructor of datatype `d` is of a type without `d`, made of what is declared earlier, or it is recursive:
-- of `d` itself at its parameters in order.
abbrev pub IsArgument : Theory → ℕ → ℕ → Ty → Type 0
IsArgument th d params t = IsBefore th d params t ⊎ (t ≡ applied d (tys (parameters_from 1 params)))

abbrev pub AreArguments : Theory → ℕ → ℕ → List Ty → Type 0
AreArguments th d params [] = Unit {0}
AreArguments th d params (t ∷ ts) = IsArgument th d params t × AreArguments th d params ts

abbrev pub AreConstructors : Theory → ℕ → ℕ → List Constructor → Type 0
AreConstructors th d params [] = Unit {0}
AreConstructors th d params (c ∷ cs) = AreArguments th d params c.arguments × AreConstructors th d params cs

abbrev pub HaveNoCall : List Tree → Type 0
HaveNoCall [] = Unit {0}
HaveNoCall (t ∷ ts) = (has_call t ≡ false) × HaveNoCall ts

abbrev pub bodies : Body → List Tree
bodies (plain t) = t ∷ []
bodies (recursive place cases) = cases

-- in a typing of a term each use of function `f` has the instance `us`
module _ (f : ℕ) (us : List Ty) where
  abbrev mutual
    pub UsesAt : Tree → Typing → Type 0
    UsesAt (con c ts) (instanced vs t ds) = AllUseAt ts ds
    UsesAt (call g ts) (instanced vs t ds) = (g ≡ f → vs ≡ us) × AllUseAt ts ds
    UsesAt (put ts) (compound t ds) = AllUseAt ts ds
    UsesAt (choice ts) (compound t ds) = AllUseAt ts ds
    UsesAt (op o ts) (compound t ds) = AllUseAt ts ds
    UsesAt (case d t arms) (branching vs u e ds) = UsesAt t e × ArmsUseAt arms ds
    UsesAt (bind t body) (binding u v d e) = UsesAt t d × UsesAt body e
    UsesAt t d = Unit {0}

    pub AllUseAt : Trees → Typings → Type 0
    AllUseAt (tree.more t ts) (more d ds) = UsesAt t d × AllUseAt ts ds
    AllUseAt ts ds = Unit {0}

    pub ArmsUseAt : Arms → ArmTypings → Type 0
    ArmsUseAt (tree.arm n body arms) (arm ts d ds) = UsesAt body d × ArmsUseAt arms ds
    ArmsUseAt arms ds = Unit {0}

-- The cases of a primitive recursive function are typed so that it uses itself at its declared type: at its own parameters.
module _ (th : Theory) (self : ℕ) (x : Function) (place : ℕ) where
  abbrev pub UseThemselves : List Tree → List (List Ty) → Type 0
  UseThemselves (t ∷ ts) (args ∷ rest) =
      ((d : Typing) × IsTyping th (others x.arguments place ++ args) [] t d × (type_of d ≡ x.answer)
      × UsesAt self (parameters_from 1 x.parameters) t d) × UseThemselves ts rest
  UseThemselves ts rest = Unit {0}

abbrev pub UsesItself : Theory → ℕ → Function → Body → Type 0
UsesItself th self x (plain t) = Unit {0}
UsesItself th self x (recursive place cases) =
    (d : ℕ) × (us : List Ty) × (numbered x.arguments place ≡ Some (datatype_at d us)) × UseThemselves th self x place cases (constructor_arguments th d us)

-- Its types are made of its own parameters and declared datatypes, its bodies call no program, and it uses itself at its
-- declared type.
pub record IsFunction (th : Theory) (self : ℕ) (x : Function) : Type 0 where
  pub types : AreBefore th (suc (length th.datatypes)) x.parameters (tys (x.answer ∷ x.arguments))
  pub no_call : HaveNoCall (bodies x.body)
  pub own_type : UsesItself th self x x.body

pub record IsAccepted (th : Theory) : Type 0 where
  pub well_typed : IsWellTyped th
  pub types_differ : AreDistinct (type_names th)
  pub names_differ : AreDistinct (value_names th)
  pub constructors : (d : ℕ) (x : Datatype) → slice_get th.datatypes d ≡ Some x → AreConstructors th (suc d) x.parameters x.constructors
  pub functions : (n : ℕ) (x : Function) → numbered th.functions n ≡ Some x → IsFunction th n x
  pub some_input : 0 < length th.program.inputs
  pub few_inputs : length th.program.inputs ≤ 8
  -- the program is called on the inputs alone, in their order
  pub calls : EachPut (λ ts. ts ≡ trees (variables_from 1 (length th.program.inputs))) th.specification
