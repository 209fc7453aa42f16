-- The laws of clauses: what they say of the term, what their atoms inherit from it, what a class says of its clause, and at which
-- inputs the program is called in checks.
use Rattle.std.specs.Prelude.{true, false, ◌≡◌, ◌↔◌, List, []}
use Rattle.tg_model.specs.Tree.{Tree, op, two, implication}
use Rattle.tg_model.specs.Types.{Ty, bool}
use Rattle.tg_model.specs.Value.{Value, boolean}
use Rattle.tg_model.specs.Theory.{Theory}
use Rattle.tg_model.specs.Table.{Table}
use Rattle.tg_model.specs.Denotation.{World, world, den}
use Rattle.tg_model.specs.TermTyping.{IsTyped}
use Rattle.tg_model.specs.WellTyped.{IsWellTyped}
use Rattle.tg_model.specs.Accepted.{IsAmong}
use Rattle.tg_model.specs.Calls.{has_call, EachPut}
use Rattle.tg_accept.specs.Checks.{Each, Any}
use Rattle.tg_rows.specs.Laws.{Setting, HaveValues}
use Rattle.tg_clause.specs.declared.literals.Literal.{Literal}
use Rattle.tg_clause.specs.Clauses.{Clause, clauses_of}
use Rattle.tg_clause.specs.Minimal.{minimised}
use Rattle.tg_clause.specs.Classes.{constraints_of, checks_of}
use Rattle.tg_clause.specs.Truth.{truth_at, holds, clause_holds, all_hold}

-- A term of type bool is True exactly where all of its clauses hold.
abbrev pub ClausesAreTrue : Type 0
ClausesAreTrue = (th : Theory) → IsWellTyped th → (n : Setting th) (t : Tree) → IsTyped th n.vars n.locs t bool
    → all_hold (world th n.table) n.env n.loc (clauses_of t) ≡ truth_at (world th n.table) n.env n.loc t

-- Minimising leaves clauses out alone, and those that it leaves say the same, whatever the terms are.
abbrev pub MinimisedAreAmong : Type 0
MinimisedAreAmong = (cs : List Clause) → Each (λ c. IsAmong c cs) (minimised cs)

abbrev pub MinimisingKeeps : Type 0
MinimisingKeeps = (w : World) (env loc : List Value) (cs : List Clause) → all_hold w env loc (minimised cs) ≡ all_hold w env loc cs

abbrev pub AtomsOf : (Tree → Type 0) → Clause → Type 0
AtomsOf Q c = Each (λ (l : Literal). Q l.atom) c

-- The atoms of a term of type bool are of type bool. They have no program call where the term has none, and the program calls in
-- them have the inputs `d` where those of the term have.
abbrev pub AtomsAreTyped : Type 0
AtomsAreTyped = (th : Theory) (vars locs : List Ty) (t : Tree) → IsTyped th vars locs t bool
    → Each (AtomsOf (λ a. IsTyped th vars locs a bool)) (clauses_of t)

abbrev pub AtomsHaveNoCall : Type 0
AtomsHaveNoCall = (t : Tree) → has_call t ≡ false → Each (AtomsOf (λ a. has_call a ≡ false)) (clauses_of t)

abbrev pub AtomsKeepInputs : Type 0
AtomsKeepInputs = (th : Theory) (tb : Table) (env d : List Value) (t : Tree) → EachPut (HaveValues th tb env d) t
    → Each (AtomsOf (EachPut (HaveValues th tb env d))) (clauses_of t)

-- A clause of terms of type bool holds exactly where, if all constraints of its class are True, one of the checks is.
abbrev pub ClassesSayClauses : Type 0
ClassesSayClauses = (th : Theory) → IsWellTyped th → (n : Setting th) (c : Clause) → AtomsOf (λ a. IsTyped th n.vars n.locs a bool) c
    → (clause_holds (world th n.table) n.env n.loc c ≡ true)
    ↔ (Each (λ t. den th n.table n.env n.loc t ≡ boolean true) (constraints_of c) → Any (λ t. den th n.table n.env n.loc t ≡ boolean true) (checks_of c))

-- Constraints and checks are of type bool where the atoms are, and no constraint has a program call.
abbrev pub ClassesAreTyped : Type 0
ClassesAreTyped = (th : Theory) (vars locs : List Ty) (c : Clause) → AtomsOf (λ a. IsTyped th vars locs a bool) c
    → Each (λ t. IsTyped th vars locs t bool) (constraints_of c) × Each (λ t. IsTyped th vars locs t bool) (checks_of c)

abbrev pub ConstraintsHaveNoCall : Type 0
ConstraintsHaveNoCall = (c : Clause) → Each (λ t. has_call t ≡ false) (constraints_of c)

-- At the values `env` the clause has the inputs `d`: where its literals without a program call are false, the program calls in it
-- have these inputs.
abbrev pub HasInputs : Theory → Table → List Value → List Value → Clause → Type 0
HasInputs th tb env d c =
    Each (λ (l : Literal). has_call l.atom ≡ false → holds (world th tb) env [] l ≡ false) c → AtomsOf (EachPut (HaveValues th tb env d)) c

-- So it is of the clauses of a term whose program calls have the inputs,
abbrev pub ClausesHaveInputs : Type 0
ClausesHaveInputs = (th : Theory) (tb : Table) (env d : List Value) (t : Tree) → EachPut (HaveValues th tb env d) t
    → Each (HasInputs th tb env d) (clauses_of t)

-- and of the clauses of `q --> t`, where the program calls of `q` have the inputs, and where it is so of the clauses of `t` if `q` is
-- True or has a program call.
abbrev pub ImplicationsHaveInputs : Type 0
ImplicationsHaveInputs = (th : Theory) → IsWellTyped th → (n : Setting th) (d : List Value) (q t : Tree) → IsTyped th n.vars [] q bool
    → EachPut (HaveValues th n.table n.env d) q
    → ((has_call q ≡ false → den th n.table n.env [] q ≡ boolean true) → Each (HasInputs th n.table n.env d) (clauses_of t))
    → Each (HasInputs th n.table n.env d) (clauses_of (op implication (two q t)))

-- Then the program calls of the class's checks have the inputs wherever its constraints are True.
abbrev pub ChecksHaveInputs : Type 0
ChecksHaveInputs = (th : Theory) (tb : Table) (env d : List Value) (c : Clause) → HasInputs th tb env d c
    → Each (λ t. den th tb env [] t ≡ boolean true) (constraints_of c) → Each (EachPut (HaveValues th tb env d)) (checks_of c)
