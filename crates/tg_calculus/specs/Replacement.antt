-- Replacing some occurrences of a term by another, under binders too. The two have no loose bound variable, so an occurrence
-- is the same tree at any depth.
use Rattle.std.specs.Prelude.{ℕ}
use Rattle.tg_model.specs.Tree as tree
use Rattle.tg_model.specs.Tree.{Tree, Trees, Arms, Operator, con, call, put, choice, case, bind, op}
use Rattle.tg_model.specs.Types.{Ty}
use Rattle.tg_model.specs.Formula as formula
use Rattle.tg_model.specs.Formula.{Formula}

module _ (s t : Tree) where
  mutual
    pub data Replaced : Tree → Tree → Type 0 where
      here : Replaced s t
      kept : (u : Tree) → Replaced u u
      in_con : (c : ℕ) {us vs : Trees} → AllReplaced us vs → Replaced (con c us) (con c vs)
      in_call : (f : ℕ) {us vs : Trees} → AllReplaced us vs → Replaced (call f us) (call f vs)
      in_put : {us vs : Trees} → AllReplaced us vs → Replaced (put us) (put vs)
      in_choice : {us vs : Trees} → AllReplaced us vs → Replaced (choice us) (choice vs)
      in_case : (d : ℕ) {u v : Tree} {bs cs : Arms} → Replaced u v → ArmsReplaced bs cs → Replaced (case d u bs) (case d v cs)
      in_bind : {u v a b : Tree} → Replaced u v → Replaced a b → Replaced (bind u a) (bind v b)
      in_op : (o : Operator) {us vs : Trees} → AllReplaced us vs → Replaced (op o us) (op o vs)

    pub data AllReplaced : Trees → Trees → Type 0 where
      none : AllReplaced tree.none tree.none
      more : {u v : Tree} {us vs : Trees} → Replaced u v → AllReplaced us vs → AllReplaced (tree.more u us) (tree.more v vs)

    pub data ArmsReplaced : Arms → Arms → Type 0 where
      end : ArmsReplaced tree.end tree.end
      arm : (n : ℕ) {u v : Tree} {bs cs : Arms} → Replaced u v → ArmsReplaced bs cs → ArmsReplaced (tree.arm n u bs) (tree.arm n v cs)

  -- a quantifier's type and the number of `deep` are never replaced
  pub data FormulaReplaced : Formula → Formula → Type 0 where
    atom : {u v : Tree} → Replaced u v → FormulaReplaced (formula.atom u) (formula.atom v)
    both : {f g f' g' : Formula} → FormulaReplaced f f' → FormulaReplaced g g' → FormulaReplaced (formula.both f g) (formula.both f' g')
    implies : {f g f' g' : Formula} → FormulaReplaced f f' → FormulaReplaced g g' → FormulaReplaced (formula.implies f g) (formula.implies f' g')
    all : (u : Ty) {f g : Formula} → FormulaReplaced f g → FormulaReplaced (formula.all u f) (formula.all u g)
    some : (u : Ty) {f g : Formula} → FormulaReplaced f g → FormulaReplaced (formula.some u f) (formula.some u g)
    thyp : {f g : Formula} → FormulaReplaced f g → FormulaReplaced (formula.thyp f) (formula.thyp g)
    tested : {us vs : Trees} → AllReplaced us vs → FormulaReplaced (formula.tested us) (formula.tested vs)
    deep : (k : ℕ) {us vs : Trees} → AllReplaced us vs → FormulaReplaced (formula.deep k us) (formula.deep k vs)
