-- What the terms of values, and variables, are in the lists of the program.
use Rattle.std.proofs.Common.{ℕ, zero, suc, ◌≡◌, ◌+◌, ◌++◌, List, [], ◌∷◌, map, length, refl, ap, sym, ◌∙◌, arith}
use Rattle.tg_model.specs.Tree as tree
use Rattle.tg_model.specs.Tree.{Tree, free, trees}
use Rattle.tg_model.specs.Types.{Ty}
use Rattle.tg_model.specs.Value as model
use Rattle.tg_term.specs.Values.{value-Nat, value-Bool, value-Con}
use Rattle.tg_hyps.specs.Written.{term_of, terms_of, variables_from}

pub terms_of_values : (vs : List model.Value) → terms_of (model.values vs) ≡ trees (map term_of vs)
terms_of_values [] = refl
terms_of_values (v ∷ vs) = ap (tree.more (term_of v)) (terms_of_values vs)

pub ruleset written = (value-Nat, value-Bool, value-Con, terms_of_values)

-- the variables `?1` to `?n`
abbrev pub free_up_to : ℕ → List Tree
free_up_to zero = []
free_up_to (suc n) = free_up_to n ++ free (suc n) ∷ []

-- the variables of as many inputs
abbrev numbers_from : ℕ → ℕ → List Tree
numbers_from n zero = []
numbers_from n (suc k) = free n ∷ numbers_from (suc n) k

one_more : (n k m : ℕ) → m ≡ n + k → numbers_from n k ++ free m ∷ [] ≡ numbers_from n (suc k)
one_more n zero m e = ap (λ x. free x ∷ []) (omega (arith, e))
one_more n (suc k) m e = ap (λ rest. free n ∷ rest) (one_more (suc n) k m (omega (arith, e)))

all_numbers : (n : ℕ) → free_up_to n ≡ numbers_from 1 n
all_numbers zero = refl
all_numbers (suc n) = ap (λ us. us ++ free (suc n) ∷ []) (all_numbers n) ∙ one_more 1 n (suc n) (omega arith)

variables_numbers : (n : ℕ) (ts : List Ty) → trees (numbers_from n (length ts)) ≡ variables_from n ts
variables_numbers n [] = refl
variables_numbers n (t ∷ ts) = ap (tree.more (free n)) (variables_numbers (suc n) ts)

pub variables_up_to : (n : ℕ) (ts : List Ty) → length ts ≡ n → trees (free_up_to n) ≡ variables_from 1 ts
variables_up_to n ts e = ap trees (all_numbers n ∙ ap (numbers_from 1) (sym e)) ∙ variables_numbers 1 ts

pub free_next : (n m : ℕ) → m ≡ n + 1 → free_up_to n ++ free m ∷ [] ≡ free_up_to (n + 1)
free_next n m e = ap (λ x. free_up_to n ++ free x ∷ []) (let s : m ≡ suc n = omega (arith, e) in s) ∙ ap free_up_to (let s : suc n ≡ n + 1 = omega arith in s)

pub ruleset numbering = (variables_up_to, free_next)
