-- Raw types and terms of the program as those of the definitions.
use Rattle.std.specs.Prelude.{◌≡◌, ℕ, Bool, List, [], ◌∷◌, map}
use Rattle.std.proofs.Common.{ap, sym, ◌∙◌}
use Rattle.tg_accept.specs.Raw as raw
use Rattle.tg_term.specs.Operators.{operator}
use Rattle.tg_grammar.specs.declared.types.RawTy.{RawTy, fold-RawTy}
use Rattle.tg_grammar.specs.declared.types.RawTy.TheFolds.{fold-roll-RawTy}
use Rattle.tg_grammar.specs.declared.types.RawTy.TheOpen.{RawTy-F}
use Rattle.tg_grammar.specs.declared.types.RawTy.TheVariants as types
use Rattle.tg_grammar.specs.declared.types.RawTy.TheVariants.{rolls-Word, rolls-Var, rolls-Nat, rolls-Bool}
use Rattle.tg_grammar.specs.declared.terms.Binder.{Binder}
use Rattle.tg_grammar.specs.declared.terms.Binder.TheVariants as binders
use Rattle.tg_grammar.specs.declared.terms.RawCon.{RawCon}
use Rattle.tg_grammar.specs.declared.terms.RawCon.TheVariants as cons
use Rattle.tg_grammar.specs.declared.declarations.RawPat.{RawPat}
use Rattle.tg_grammar.specs.declared.declarations.RawPat.TheVariants as patterns
use Rattle.tg_grammar.specs.declared.declarations.RawEq.{RawEq}
use Rattle.tg_grammar.specs.declared.declarations.RawConDef.{RawConDef}
use Rattle.tg_grammar.specs.declared.declarations.RawDecl.{RawDecl}
use Rattle.tg_grammar.specs.declared.declarations.RawDecl.TheVariants as declarations
use Rattle.tg_grammar.specs.declared.terms.RawBranch.{RawBranch, RawBranch-F}
use Rattle.tg_grammar.specs.declared.terms.RawTerm.{RawTerm, fold-RawTerm}
use Rattle.tg_grammar.specs.declared.terms.RawTerm.TheFolds.{fold-roll-RawTerm, fold-RawBranch, fold-roll-RawBranch}
use Rattle.tg_grammar.specs.declared.terms.RawTerm.TheOpen.{RawTerm-F}
use Rattle.tg_grammar.specs.declared.terms.RawTerm.TheVariants as terms
use Rattle.tg_grammar.specs.declared.terms.RawTerm.TheVariants.{rolls-Num, rolls-Truth, rolls-Use, rolls-Free, rolls-Bound}
use Rattle.tg_grammar.specs.declared.terms.RawTerm.TheVariants.{rolls-Op, rolls-If, rolls-Let, rolls-Case}

-- ---- types

abbrev pub listed_types : List raw.RawType → raw.RawTypes
listed_types [] = raw.no_types
listed_types (t ∷ ts) = raw.more_types t (listed_types ts)

abbrev pub type_step : RawTy-F raw.RawType → raw.RawType
type_step RawTy-F.Nat = raw.natural_type
type_step RawTy-F.Bool = raw.truth_type
type_step (RawTy-F.Var x) = raw.type_variable x
type_step (RawTy-F.Word x ts) = raw.type_word x (listed_types ts)

abbrev pub raw_type : RawTy → raw.RawType
raw_type = fold-RawTy raw.RawType type_step

abbrev pub raw_types : List RawTy → raw.RawTypes
raw_types ts = listed_types (map raw_type ts)

pub raw_type-Nat : raw_type types.Nat ≡ raw.natural_type
raw_type-Nat = ap raw_type (sym rolls-Nat) ∙ fold-roll-RawTy raw.RawType type_step _

pub raw_type-Bool : raw_type types.Bool ≡ raw.truth_type
raw_type-Bool = ap raw_type (sym rolls-Bool) ∙ fold-roll-RawTy raw.RawType type_step _

pub raw_type-Var : (x : List ℕ) → raw_type (types.Var x) ≡ raw.type_variable x
raw_type-Var x = ap raw_type (sym (rolls-Var x)) ∙ fold-roll-RawTy raw.RawType type_step _

pub raw_type-Word : (x : List ℕ) (ts : List RawTy) → raw_type (types.Word x ts) ≡ raw.type_word x (raw_types ts)
raw_type-Word x ts = ap raw_type (sym (rolls-Word x ts)) ∙ fold-roll-RawTy raw.RawType type_step _

-- ---- binders and heads

abbrev pub binder : Binder → raw.Binder
binder (binders.Named x) = raw.name x
binder (binders.Level n) = raw.level n

abbrev pub head : RawCon → raw.RawHead
head cons.Zero = raw.zero_word
head cons.Suc = raw.successor_word
head (cons.Named x) = raw.constructor_word x

-- ---- terms

-- a branch whose body is already seen
pub record Seen : Type 0 where
  pub head : raw.RawHead
  pub variables : List raw.Binder
  pub body : raw.RawTerm

abbrev pub listed : List raw.RawTerm → raw.RawTerms
listed [] = raw.none
listed (t ∷ ts) = raw.more t (listed ts)

abbrev pub branched : List Seen → raw.RawBranches
branched [] = raw.end
branched (b ∷ bs) = raw.branch b.head b.variables b.body (branched bs)

-- a `let` has two terms, the bound one and the body
abbrev pub bound_in : raw.Binder → List raw.RawTerm → raw.RawTerm
bound_in x (t ∷ body ∷ []) = raw.bind x t body
bound_in x _ = raw.unread

-- a `case` is of one term
abbrev pub case_of : raw.RawBranches → List raw.RawTerm → raw.RawTerm
case_of bs (t ∷ []) = raw.case t bs
case_of bs _ = raw.unread

abbrev pub step : RawTerm-F raw.RawTerm Seen → raw.RawTerm
step (RawTerm-F.Num n) = raw.number n
step (RawTerm-F.Truth b) = raw.truth b
step (RawTerm-F.Use x ts) = raw.word x (listed ts)
step (RawTerm-F.Free n) = raw.question n
step (RawTerm-F.Bound n) = raw.bang n
step (RawTerm-F.Op o ts) = raw.op (operator o) (listed ts)
step (RawTerm-F.If ts) = raw.choice (listed ts)
step (RawTerm-F.Let x ts) = bound_in (binder x) ts
step (RawTerm-F.Case ts bs) = case_of (branched bs) ts

abbrev pub branch_step : RawBranch-F raw.RawTerm Seen → Seen
branch_step b = record { head = head b.con; variables = map binder b.vars; body = b.body }

abbrev pub raw_term : RawTerm → raw.RawTerm
raw_term = fold-RawTerm raw.RawTerm Seen step branch_step

abbrev pub raw_terms : List RawTerm → raw.RawTerms
raw_terms ts = listed (map raw_term ts)

abbrev pub seen : RawBranch → Seen
seen = fold-RawBranch raw.RawTerm Seen step branch_step

abbrev pub raw_branches : List RawBranch → raw.RawBranches
raw_branches bs = branched (map seen bs)

pub raw_term-Num : (n : ℕ) → raw_term (terms.Num n) ≡ raw.number n
raw_term-Num n = ap raw_term (sym (rolls-Num n)) ∙ fold-roll-RawTerm raw.RawTerm Seen step branch_step _

pub raw_term-Truth : (b : Bool) → raw_term (terms.Truth b) ≡ raw.truth b
raw_term-Truth b = ap raw_term (sym (rolls-Truth b)) ∙ fold-roll-RawTerm raw.RawTerm Seen step branch_step _

pub raw_term-Use : (x : List ℕ) (ts : List RawTerm) → raw_term (terms.Use x ts) ≡ raw.word x (raw_terms ts)
raw_term-Use x ts = ap raw_term (sym (rolls-Use x ts)) ∙ fold-roll-RawTerm raw.RawTerm Seen step branch_step _

pub raw_term-Free : (n : ℕ) → raw_term (terms.Free n) ≡ raw.question n
raw_term-Free n = ap raw_term (sym (rolls-Free n)) ∙ fold-roll-RawTerm raw.RawTerm Seen step branch_step _

pub raw_term-Bound : (n : ℕ) → raw_term (terms.Bound n) ≡ raw.bang n
raw_term-Bound n = ap raw_term (sym (rolls-Bound n)) ∙ fold-roll-RawTerm raw.RawTerm Seen step branch_step _

pub raw_term-Op : (o : ℕ) (ts : List RawTerm) → raw_term (terms.Op o ts) ≡ raw.op (operator o) (raw_terms ts)
raw_term-Op o ts = ap raw_term (sym (rolls-Op o ts)) ∙ fold-roll-RawTerm raw.RawTerm Seen step branch_step _

pub raw_term-If : (ts : List RawTerm) → raw_term (terms.If ts) ≡ raw.choice (raw_terms ts)
raw_term-If ts = ap raw_term (sym (rolls-If ts)) ∙ fold-roll-RawTerm raw.RawTerm Seen step branch_step _

pub raw_term-Let : (x : Binder) (ts : List RawTerm) → raw_term (terms.Let x ts) ≡ bound_in (binder x) (map raw_term ts)
raw_term-Let x ts = ap raw_term (sym (rolls-Let x ts)) ∙ fold-roll-RawTerm raw.RawTerm Seen step branch_step _

pub raw_term-Case : (ts : List RawTerm) (bs : List RawBranch) → raw_term (terms.Case ts bs) ≡ case_of (raw_branches bs) (map raw_term ts)
raw_term-Case ts bs = ap raw_term (sym (rolls-Case ts bs)) ∙ fold-roll-RawTerm raw.RawTerm Seen step branch_step _

pub seen-RawBranch : (b : RawBranch) → seen b ≡ record { head = head b.con; variables = map binder b.vars; body = raw_term b.body }
seen-RawBranch b = fold-roll-RawBranch raw.RawTerm Seen step branch_step _

-- ---- declarations

abbrev pub raw_pattern : RawPat → raw.RawPattern
raw_pattern (patterns.Word x) = raw.bare x
raw_pattern patterns.Zero = raw.zero_pattern
raw_pattern (patterns.Con c xs) = raw.bracketed (head c) xs

abbrev pub raw_equation : RawEq → raw.RawEquation
raw_equation e = record { head = e.head; patterns = map raw_pattern e.pats; body = raw_term e.body }

abbrev pub raw_constructor : RawConDef → raw.RawConstructor
raw_constructor c = record { name = c.name; arguments = map raw_type c.args }

abbrev pub raw_declaration : RawDecl → raw.RawDeclaration
raw_declaration (declarations.Datatype x params cs) = raw.datatype x params (map raw_constructor cs)
raw_declaration (declarations.Primrec x ts es) = raw.primrec x (map raw_type ts) (map raw_equation es)
raw_declaration (declarations.Definition x ts es) = raw.definition x (map raw_type ts) (map raw_equation es)
raw_declaration (declarations.Program x ts) = raw.program x (map raw_type ts)
raw_declaration (declarations.Spec xs body) = raw.specification xs (raw_term body)
