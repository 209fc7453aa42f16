-- The variables of classes are naturals and truth values.
use Rattle.std.proofs.Common.{ℕ, zero, suc, ◌≡◌, List, [], ◌∷◌, ◌++◌, length, map, sym, subst}
use Rattle.std.specs.List.{flat_map}
use Rattle.tg_model.specs.Accepted.{IsAccepted}
use Rattle.tg_model.specs.Denotation.{world, values_in}
use Rattle.tg_model.specs.Filling.{fill, HaveVariables}
use Rattle.tg_model.specs.Table.{Table}
use Rattle.tg_model.specs.Tree.{Trees}
use Rattle.tg_model.specs.Value.{Value}
use Rattle.tg_split.specs.Laws.{AllOf, IsLinear, IsPatternOf}
use Rattle.tg_split.proofs.Covering.{patterns_are_linear}
use Rattle.tg_split.proofs.TypedPatterns.{patterns_are_typed}
use Rattle.tg_model.specs.Types.{Ty, nat, bool, parameter, meta, applied, elements}
use Rattle.tg_model.specs.Theory.{Theory, Datatype, first_constructor}
use Rattle.tg_accept.specs.Checks.{Each}
use Rattle.tg_clause.specs.Clauses.{Clause, clauses_of}
use Rattle.tg_clause.specs.Minimal.{minimised}
use Rattle.tg_split.specs.Patterns.{Pattern, holes, all_holes, pattern_of, of_input, to_depth, patterns, Input}
use Rattle.tg_split.specs.Shapes.{Shape, Shapes, node, more, product, products, of_constructors, arguments_at, of_type}
use Rattle.tg_hyps.specs.Hypotheses.{Class}
use Rattle.tg_solver.specs.Laws.{AreSimple}
use Rattle.tg_derive.specs.Classes.{AreClasses, class_of}
use Rattle.tg_derive.specs.Trees.{AreClassesOf}
use Rattle.tg_derive.proofs.EachLaws.{each_both, each_map, each_given}
use Rattle.tg_derive.proofs.TreeLaws.{classes_are_of_trees}

abbrev IsSimple : Shape → Type 0
IsSimple s = AreSimple (holes s)

abbrev AllSimple : Shapes → Type 0
AllSimple ss = AreSimple (all_holes ss)

both_simple : (ts us : List Ty) → AreSimple ts → AreSimple us → AreSimple (ts ++ us)
both_simple [] us s r = r
both_simple (t ∷ ts) us s r = (s.0, both_simple ts us s.1 r)

product_simple : (ss : List Shape) (rests : List Shapes) → Each IsSimple ss → Each AllSimple rests → Each AllSimple (product ss rests)
product_simple [] rests s r = tt
product_simple (x ∷ ss) rests s r =
    each_both AllSimple (map (more x) rests) (product ss rests)
    (each_map AllSimple (more x) rests (each_given AllSimple (λ ys. AllSimple (more x ys)) rests (λ ys h. both_simple (holes x) (all_holes ys) s.0 h) r))
    (product_simple ss rests s.1 r)

products_simple : {A : Type 0} (shapes : A → List Shape) → ((x : A) → Each IsSimple (shapes x)) → (xs : List A) → Each AllSimple (products shapes xs)
products_simple shapes s [] = (tt, tt)
products_simple shapes s (x ∷ xs) = product_simple (shapes x) (products shapes xs) (s x) (products_simple shapes s xs)

constructors_simple : (shapes : Ty → List Shape) → ((t : Ty) → Each IsSimple (shapes t)) → (c : ℕ) (tss : List (List Ty))
    → Each IsSimple (of_constructors shapes c tss)
constructors_simple shapes s c [] = tt
constructors_simple shapes s c (ts ∷ rest) =
    each_both IsSimple (map (node c) (products shapes ts)) (of_constructors shapes (suc c) rest)
    (each_map IsSimple (node c) (products shapes ts) (products_simple shapes s ts))
    (constructors_simple shapes s (suc c) rest)

type_simple : (ds : List Datatype) (k : ℕ) (t : Ty) → Each IsSimple (of_type ds k t)
type_simple ds k nat = ((tt, tt), tt)
type_simple ds k bool = ((tt, tt), tt)
type_simple ds k (parameter n) = tt
type_simple ds k (meta n) = tt
type_simple ds zero (applied d ts) = tt
type_simple ds (suc k) (applied d ts) =
    constructors_simple (of_type ds k) (type_simple ds k) (first_constructor ds d) (arguments_at ds d (elements ts))

patterns_simple : (th : Theory) (k : ℕ) → Each (λ (p : Pattern). AreSimple p.variables) (patterns th k)
patterns_simple th k =
    each_map (λ (p : Pattern). AreSimple p.variables) pattern_of (products (of_input th) (to_depth k th.program.inputs))
    (products_simple (of_input th) (λ (i : Input). type_simple th.datatypes i.0 i.1) (to_depth k th.program.inputs))

all_of : {A : Type 0} (P : A → Type 0) → ((x : A) → P x) → (xs : List A) → Each P xs
all_of P h [] = tt
all_of P h (x ∷ xs) = (h x, all_of P h xs)

-- what is true of the terms and the variables of each pattern is true of the inputs and the variables of each class
module _ (P : Trees → List Ty → Type 0) where
  abbrev OfPattern : Pattern → Type 0
  OfPattern p = P p.terms p.variables

  abbrev OfClass : Class → Type 0
  OfClass c = P c.inputs c.variables

  of_patterns : (th : Theory) (ps : List Pattern) → Each OfPattern ps → (cs : List Class) → AreClassesOf th ps cs → Each OfClass cs
  of_patterns th [] s cs e = subst (λ l. Each OfClass l) (sym e) tt
  of_patterns th (p ∷ ps) s cs a =
      subst (λ l. Each OfClass l) (sym a.4)
      (each_both OfClass a.0 a.1
      (subst (λ l. Each OfClass l) (sym a.2.classes)
      (each_map OfClass (class_of p) (minimised (flat_map clauses_of a.2.leaves))
      (all_of (λ (c : Clause). OfClass (class_of p c)) (λ c. s.0) (minimised (flat_map clauses_of a.2.leaves)))))
      (of_patterns th ps s.1 a.1 a.3))

  pub of_classes : (th : Theory) (k : ℕ) (cs : List Class) → AreClasses th k cs → Each OfPattern (patterns th k) → Each OfClass cs
  of_classes th k cs h s = of_patterns th (patterns th k) s cs (classes_are_of_trees th k cs h)

pub simple_variables : (th : Theory) (k : ℕ) (cs : List Class) → AreClasses th k cs → Each (λ (c : Class). AreSimple c.variables) cs
simple_variables th k cs h = of_classes (λ inputs variables. AreSimple variables) th k cs h (patterns_simple th k)

each_of : {A : Type 0} (P Q : A → Type 0) → ((x : A) → P x → Q x) → (xs : List A) → AllOf P xs → Each Q xs
each_of P Q f [] h = tt
each_of P Q f (x ∷ xs) h = (f x h.0, each_of P Q f xs h.1)

-- Each variable of a class stands in its inputs.
abbrev pub IsLinearClass : Class → Type 0
IsLinearClass c = HaveVariables (length c.variables) c.inputs

pub linear_classes : (th : Theory) (k : ℕ) (cs : List Class) → AreClasses th k cs → Each IsLinearClass cs
linear_classes th k cs h =
    of_classes (λ inputs variables. HaveVariables (length variables) inputs) th k cs h
    (each_of IsLinear (λ (p : Pattern). HaveVariables (length p.variables) p.terms) (λ p l. l.have) (patterns th k)
    (patterns_are_linear th (to_depth k th.program.inputs)))

-- The inputs of a class have on each table the values that it has at the values of its variables.
abbrev pub IsFilledClass : Theory → Class → Type 0
IsFilledClass th c = (tb : Table) (vs : List Value) → values_in (world th tb) vs [] c.inputs ≡ fill vs c.inputs

pub filled_classes : (th : Theory) → IsAccepted th → (k : ℕ) (cs : List Class) → AreClasses th k cs → Each (IsFilledClass th) cs
filled_classes th accepted k cs h =
    of_classes (λ inputs variables. (tb : Table) (vs : List Value) → values_in (world th tb) vs [] inputs ≡ fill vs inputs) th k cs h
    (each_of (IsPatternOf th th.program.inputs) (λ (p : Pattern). (tb : Table) (vs : List Value) → values_in (world th tb) vs [] p.terms ≡ fill vs p.terms)
    (λ p l. l.value) (patterns th k) (patterns_are_typed th k accepted))
