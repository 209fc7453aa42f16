-- What lifting, substitution, instantiation and abstraction promise of the term that they give. Each is exactly its
-- definition, and keeps values on every table, for all values of the loose bound variables.
use Rattle.std.specs.Prelude.{ℕ, ◌≡◌, ◌≢◌, ◌↔◌, Some, List, ◌∷◌, ◌++◌, map, reverse, length}
use Rattle.tg_model.specs.Tree.{Tree}
use Rattle.tg_model.specs.Formula.{Formula}
use Rattle.tg_model.specs.Value.{Value}
use Rattle.tg_model.specs.Theory.{Theory, numbered}
use Rattle.tg_model.specs.Table.{Table}
use Rattle.tg_model.specs.Denotation.{den}
use Rattle.tg_model.specs.Truth.{Holds}
use Rattle.tg_model.specs.Walk.{lifted, substituted, instantiated, abstracted, substituted_formula, instantiated_formula, abstracted_formula}

pub record IsLifted (by : ℕ) (t u : Tree) : Type 0 where
  pub is : u ≡ lifted by t
  pub value : (th : Theory) (tb : Table) (env between loc : List Value) → length between ≡ by → den th tb env (between ++ loc) u ≡ den th tb env loc t

pub record IsSubstituted (us : List Tree) (t u : Tree) : Type 0 where
  pub is : u ≡ substituted us t
  pub value : (th : Theory) (tb : Table) (env loc : List Value) → den th tb env loc u ≡ den th tb (map (den th tb env loc) us) loc t

pub record IsInstantiated (us : List Tree) (t u : Tree) : Type 0 where
  pub is : u ≡ instantiated us t
  pub value : (th : Theory) (tb : Table) (env loc : List Value) → den th tb env loc u ≡ den th tb env (reverse (map (den th tb env loc) us) ++ loc) t

-- `env'` is `env` but for `?n`, whose value the innermost loose bound variable has
pub record IsAbstracted (n : ℕ) (t u : Tree) : Type 0 where
  pub is : u ≡ abstracted n t
  pub value : (th : Theory) (tb : Table) (env env' loc : List Value) (v : Value) → numbered env n ≡ Some v
      → ((m : ℕ) → m ≢ n → numbered env' m ≡ numbered env m) → den th tb env' (v ∷ loc) u ≡ den th tb env loc t

pub record IsSubstitutedFormula (us : List Tree) (f g : Formula) : Type 0 where
  pub is : g ≡ substituted_formula us f
  pub truth : (th : Theory) (tb : Table) (env loc : List Value) → Holds th tb env loc g ↔ Holds th tb (map (den th tb env loc) us) loc f

pub record IsInstantiatedFormula (us : List Tree) (f g : Formula) : Type 0 where
  pub is : g ≡ instantiated_formula us f
  pub truth : (th : Theory) (tb : Table) (env loc : List Value) → Holds th tb env loc g ↔ Holds th tb env (reverse (map (den th tb env loc) us) ++ loc) f

pub record IsAbstractedFormula (n : ℕ) (f g : Formula) : Type 0 where
  pub is : g ≡ abstracted_formula n f
  pub truth : (th : Theory) (tb : Table) (env env' loc : List Value) (v : Value) → numbered env n ≡ Some v
      → ((m : ℕ) → m ≢ n → numbered env' m ≡ numbered env m) → Holds th tb env' (v ∷ loc) g ↔ Holds th tb env loc f
