-- Types, terms and declarations as they are written, as plain data. Names are lists of bytes.
use Rattle.std.specs.Prelude.{ℕ, suc, Bool, ◌+◌, List}
use Rattle.tg_model.specs.Tree.{Operator}

abbrev pub Name : Type 0
Name = List ℕ

mutual
  pub data RawType : Type 0 where
    natural_type : RawType
    truth_type : RawType
    -- a type variable
    type_variable : (x : List ℕ) → RawType
    -- a datatype's name and the types that it is applied to
    type_word : (x : List ℕ) (ts : RawTypes) → RawType

  pub data RawTypes : Type 0 where
    no_types : RawTypes
    more_types : (t : RawType) (ts : RawTypes) → RawTypes

-- a variable where it is bound: a name in a theory, the number of the binder from the outside in a certificate
pub data Binder : Type 0 where
  name : (x : List ℕ) → Binder
  level : (n : ℕ) → Binder

-- what a branch or a bracketed pattern begins with
pub data RawHead : Type 0 where
  zero_word : RawHead
  successor_word : RawHead
  constructor_word : (x : List ℕ) → RawHead

mutual
  pub data RawTerm : Type 0 where
    number : (n : ℕ) → RawTerm
    truth : (b : Bool) → RawTerm
    -- a name and its arguments
    word : (x : List ℕ) (ts : RawTerms) → RawTerm
    -- `?n` and `!n` of a certificate
    question : (n : ℕ) → RawTerm
    bang : (n : ℕ) → RawTerm
    op : (o : Operator) (ts : RawTerms) → RawTerm
    choice : (ts : RawTerms) → RawTerm
    bind : (x : Binder) (t body : RawTerm) → RawTerm
    case : (t : RawTerm) (bs : RawBranches) → RawTerm
    -- a raw value that no text gives: a `let` that hasn't two terms, or a `case` of other than one
    unread : RawTerm

  pub data RawTerms : Type 0 where
    none : RawTerms
    more : (t : RawTerm) (ts : RawTerms) → RawTerms

  pub data RawBranches : Type 0 where
    end : RawBranches
    branch : (head : RawHead) (xs : List Binder) (body : RawTerm) (bs : RawBranches) → RawBranches

pub data RawPattern : Type 0 where
  -- a bare name, a constructor or a variable
  bare : (x : List ℕ) → RawPattern
  zero_pattern : RawPattern
  -- a constructor and the names after it, in brackets
  bracketed : (head : RawHead) (xs : List (List ℕ)) → RawPattern

pub record RawEquation : Type 0 where
  -- the name that it begins with
  pub head : List ℕ
  pub patterns : List RawPattern
  pub body : RawTerm

pub record RawConstructor : Type 0 where
  pub name : List ℕ
  pub arguments : List RawType

-- of the types of a function or the program the last is that of the result
pub data RawDeclaration : Type 0 where
  datatype : (x : List ℕ) (params : List (List ℕ)) (cs : List RawConstructor) → RawDeclaration
  primrec : (x : List ℕ) (ts : List RawType) (es : List RawEquation) → RawDeclaration
  definition : (x : List ℕ) (ts : List RawType) (es : List RawEquation) → RawDeclaration
  program : (x : List ℕ) (ts : List RawType) → RawDeclaration
  specification : (xs : List (List ℕ)) (body : RawTerm) → RawDeclaration

-- The nodes of a term: one for each term in it. A branch counts its body alone, and a bracket or a binder nothing.
abbrev mutual
  pub nodes : RawTerm → ℕ
  nodes (number n) = 1
  nodes (truth b) = 1
  nodes (word x ts) = suc (all_nodes ts)
  nodes (question n) = 1
  nodes (bang n) = 1
  nodes (op o ts) = suc (all_nodes ts)
  nodes (choice ts) = suc (all_nodes ts)
  nodes (bind x t body) = suc (nodes t + nodes body)
  nodes (case t bs) = suc (nodes t + branch_nodes bs)
  nodes unread = 1

  pub all_nodes : RawTerms → ℕ
  all_nodes none = 0
  all_nodes (more t ts) = nodes t + all_nodes ts

  pub branch_nodes : RawBranches → ℕ
  branch_nodes end = 0
  branch_nodes (branch head xs body bs) = nodes body + branch_nodes bs

-- A formula of a certificate: `thyp` marks a test hypothesis, `tested` and `deep` are of terms for the inputs.
pub data RawFormula : Type 0 where
  raw_atom : (t : RawTerm) → RawFormula
  raw_both : (f g : RawFormula) → RawFormula
  raw_implies : (f g : RawFormula) → RawFormula
  raw_all : (t : RawType) (f : RawFormula) → RawFormula
  raw_some : (t : RawType) (f : RawFormula) → RawFormula
  raw_thyp : (f : RawFormula) → RawFormula
  raw_tested : (ts : RawTerms) → RawFormula
  raw_deep : (k : ℕ) (ts : RawTerms) → RawFormula
