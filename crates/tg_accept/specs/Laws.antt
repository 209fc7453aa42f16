-- The laws of resolved terms.
use Rattle.std.specs.Prelude.{ℕ, ◌≡◌, true, List, ◌++◌, length, Option, Some}
use Rattle.tg_model.specs.Tree.{Tree}
use Rattle.tg_model.specs.Types.{Ty}
use Rattle.tg_model.specs.Theory.{Theory, Datatype, Function, numbered}
use Rattle.tg_model.specs.TermTyping.{Typing, type_of, IsTyping, IsTyped}
use Rattle.tg_model.specs.TypeLaws.{EachCase}
use Rattle.tg_accept.specs.Resolved.{Resolved, calls_program}
use Rattle.tg_accept.specs.ResolvedTyping.{IsTypingOf}
use Rattle.tg_accept.specs.Core.{core, EachCaseWhole, resolved_again}

-- In a theory that has the declared function as number `self`, the core term has the type of each typing of the resolved term.
abbrev pub CoreIsTyped : Type 0
CoreIsTyped = (th : Theory) (self : ℕ) (x : Function) (ps vars locs : List Ty) (t : Resolved) (d : Typing)
    → numbered th.functions self ≡ Some x → length ps ≡ x.parameters
    → IsTypingOf th (Some x) ps vars locs t d → EachCaseWhole th t → IsTyped th vars locs (core th self t) (type_of d)

-- A typing of a core term is one of the resolved term, whatever the function that is being declared.
abbrev pub ResolvedAgain : Type 0
ResolvedAgain = (th : Theory) (self : Option Function) (ps vars locs : List Ty) (t : Tree) (d : Typing)
    → IsTyping th vars locs t d → IsTypingOf th self ps vars locs (resolved_again th t) d

-- And a typing of the resolved term is one of the core term, where this has its branches as declared.
abbrev pub TypedAgain : Type 0
TypedAgain = (th : Theory) (self : Option Function) (ps vars locs : List Ty) (t : Tree) (d : Typing)
    → EachCase th t → IsTypingOf th self ps vars locs (resolved_again th t) d → IsTyping th vars locs t d

-- the later theory has the datatypes and functions of the earlier one, and maybe further ones
pub record Widens (earlier later : Theory) : Type 0 where
  pub more_datatypes : List Datatype
  pub more_functions : List Function
  pub datatypes : later.datatypes ≡ earlier.datatypes ++ more_datatypes
  pub functions : later.functions ≡ earlier.functions ++ more_functions

-- Later declarations keep typings; the program is to be the same where the term calls it.
abbrev pub TypingsWiden : Type 0
TypingsWiden = (th later : Theory) → Widens th later → (self : Option Function) (ps vars locs : List Ty) (t : Resolved) (d : Typing)
    → (calls_program t ≡ true → later.program ≡ th.program)
    → IsTypingOf th self ps vars locs t d → IsTypingOf later self ps vars locs t d
