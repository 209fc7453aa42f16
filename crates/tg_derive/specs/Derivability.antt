-- What the calculus derives of normal forms and of classes.
use Rattle.std.specs.Prelude.{ℕ, suc, true, false, ◌≡◌, ◌≤◌, List, [], ◌∷◌, ◌++◌, map, Some, None}
use Rattle.tg_model.specs.Tree.{Tree}
use Rattle.tg_model.specs.Types.{Ty, Tys, applied, elements}
use Rattle.tg_model.specs.Formula.{Formula, atom, implies, tested}
use Rattle.tg_model.specs.Theory.{Theory, numbered, first_constructor, IsClosed}
use Rattle.tg_model.specs.TermTyping.{constructor_arguments}
use Rattle.tg_model.specs.Typing.{AreTyped}
use Rattle.tg_model.specs.Walk.{substituted}
use Rattle.tg_model.specs.Closing.{universal_closure}
use Rattle.tg_model.specs.Calls.{has_call}
use Rattle.tg_model.specs.Accepted.{IsAccepted}
use Rattle.tg_accept.specs.Checks.{Each}
use Rattle.tg_norm.specs.Splits.{IsForm}
use Rattle.tg_split.specs.Patterns.{Pattern, patterns}
use Rattle.tg_split.specs.Laws.{AllOf, IsPatternOf}
use Rattle.tg_hyps.specs.Hypotheses.{Class, if_all, checked, open_class_of}
use Rattle.tg_hyps.specs.Written.{term_of}
use Rattle.tg_hyps.specs.Meaning.{IsClassOf}
use Rattle.tg_calculus.specs.Sequent as sequent
use Rattle.tg_calculus.specs.Sequent.{Context, Hypotheses, ◌│◌⊢◌, equation}
use Rattle.tg_calculus.specs.Computing.{computes}
use Rattle.tg_calculus.specs.Step.{IsContext, IsFormula, IsTerm}
use Rattle.tg_calculus.specs.Derivation.{Derives}
use Rattle.tg_calculus.specs.Theorem.{IsTheorem, Follows}
use Rattle.tg_calculus.specs.Cases.{own_equation}
use Rattle.tg_derive.specs.Goals.{start}
use Rattle.tg_derive.specs.Classes.{AreClasses}
use Rattle.tg_derive.specs.Trees.{AreClassesAt}
use Rattle.tg_derive.specs.Theorem.{Choice, of_class, hypotheses_of, formulas, theorem_of}

-- In an accepted theory a typed term equals its normal form, without hypotheses.
abbrev pub NormalFormsAreDerivable : Type 0
NormalFormsAreDerivable = (th : Theory) (G : Context) (t u : Tree) (T : Ty) → IsAccepted th → IsContext th G → IsTerm th G t T → IsForm th t u
    → Derives th (G │ [] ⊢ equation t u)

-- what the open class of a class says at its variables: at a tested input, where its constraints are true, one of the checks is
abbrev pub class_formula : Class → Formula
class_formula c = implies (tested c.inputs) (if_all c.constraints (checked c))

-- At a pattern, the specification follows from what the pattern's classes say.
abbrev pub PatternsAreDerivable : Type 0
PatternsAreDerivable = (th : Theory) (p : Pattern) (cs : List Class) → IsAccepted th → IsPatternOf th th.program.inputs p → AreClassesAt th p cs
    → IsTheorem th p.variables (map class_formula cs) (implies (tested p.terms) (atom (start th p).term))

-- From hypotheses that give each class of a pattern, the specification follows at all values of the pattern's variables.
abbrev pub ClosedPatternsAreDerivable : Type 0
ClosedPatternsAreDerivable = (th : Theory) (p : Pattern) (cs : List Class) (H : Hypotheses) → IsAccepted th → IsPatternOf th th.program.inputs p
    → AreClassesAt th p cs → sequent.Each (IsFormula th []) H → Each (λ c. IsTheorem th [] H (open_class_of c)) cs
    → IsTheorem th [] H (universal_closure p.variables (implies (tested p.terms) (atom (start th p).term)))

-- where a class is tested, its constraints compute to True with the values' terms put in
abbrev pub IsComputed : Theory → Class → Choice → Type 0
IsComputed th c (Some vs) = AreTyped th vs c.variables × Each (λ t. computes th (substituted (map term_of vs) t) ≡ true) c.constraints
IsComputed th c None = Unit {0}

-- A class follows from its test and its uniformity, or from its open class.
abbrev pub ClassesAreDerivable : Type 0
ClassesAreDerivable = (th : Theory) (n : ℕ) (c : Class) (x : Choice) → IsAccepted th → IsClassOf th c → Each (λ t. has_call t ≡ false) c.constraints
    → IsComputed th c x → IsTheorem th [] (formulas (of_class n c x)) (open_class_of c)

-- so for each class
abbrev pub AreComputed : Theory → List Class → List Choice → Type 0
AreComputed th [] [] = Unit {0}
AreComputed th (c ∷ cs) (x ∷ xs) = IsComputed th c x × AreComputed th cs xs
AreComputed th _ _ = ⊥

-- From the hypotheses of the theorem, at each pattern of the inputs the specification follows.
abbrev pub EachPatternIsDerivable : Type 0
EachPatternIsDerivable = (th : Theory) (k : ℕ) (cs : List Class) (xs : List Choice) → IsAccepted th → AreClasses th k cs → AreComputed th cs xs
    → AllOf (λ p. IsTheorem th [] (formulas (hypotheses_of th k cs xs)) (universal_closure p.variables (implies (tested p.terms) (atom (start th p).term))))
    (patterns th k)

-- With `?n` made by each constructor from number `c` on, of new variables, the formula follows.
abbrev pub FollowInCases : Theory → Context → ℕ → Hypotheses → Formula → ℕ → List (List Ty) → Type 0
FollowInCases th G n H Q c [] = Unit {0}
FollowInCases th G n H Q c (Us ∷ rest) = Follows th (G ++ Us) (own_equation G n c Us ∷ H) Q × FollowInCases th G n H Q (suc c) rest

-- What follows however a variable of a datatype is made follows, where the hypotheses have no variable.
abbrev pub CasesAreEnough : Type 0
CasesAreEnough = (th : Theory) (G : Context) (n d : ℕ) (Ts : Tys) (H : Hypotheses) (Q : Formula) → IsAccepted th → IsClosed th (applied d Ts)
    → numbered G n ≡ Some (applied d Ts) → sequent.Each (IsFormula th []) H → IsFormula th G Q
    → FollowInCases th G n H Q (first_constructor th.datatypes d) (constructor_arguments th d (elements Ts)) → Follows th G H Q

-- The theorem has a derivation, to a depth of at least 1.
abbrev pub TheoremIsDerivable : Type 0
TheoremIsDerivable = (th : Theory) (k : ℕ) (cs : List Class) (xs : List Choice) → IsAccepted th → 1 ≤ k → AreClasses th k cs → AreComputed th cs xs
    → IsTheorem th [] (theorem_of th k cs xs).hypotheses (theorem_of th k cs xs).goal
