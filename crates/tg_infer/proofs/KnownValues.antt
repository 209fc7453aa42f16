-- Known values of the definitions of this crate.
use Rattle.std.specs.Prelude.{◌≡◌, [], ◌∷◌, Some, None, refl}
use Rattle.tg_accept.specs.Raw.{name, number, bind, case, unread, end}
use Rattle.tg_accept.specs.Meaning as meaning
use Rattle.tg_infer.specs.View.{bound_in, case_of}
use Rattle.tg_infer.specs.Binders.{level_of}
use Rattle.tg_infer.specs.Words.{word_in}

-- ---- lists of terms that no text gives

two_terms : bound_in (name (120 ∷ [])) (number 1 ∷ number 2 ∷ []) ≡ bind (name (120 ∷ [])) (number 1) (number 2)
two_terms = refl

one_term : bound_in (name (120 ∷ [])) (number 1 ∷ []) ≡ unread
one_term = refl

three_terms : bound_in (name (120 ∷ [])) (number 1 ∷ number 2 ∷ number 3 ∷ []) ≡ unread
three_terms = refl

of_one : case_of end (number 1 ∷ []) ≡ case (number 1) end
of_one = refl

of_none : case_of end [] ≡ unread
of_none = refl

of_two : case_of end (number 1 ∷ number 2 ∷ []) ≡ unread
of_two = refl

-- ---- binders

inner : level_of (120 ∷ []) (name (120 ∷ []) ∷ name (121 ∷ []) ∷ name (120 ∷ []) ∷ []) ≡ Some 2
inner = refl

outer : level_of (121 ∷ []) (name (120 ∷ []) ∷ name (121 ∷ []) ∷ name (120 ∷ []) ∷ []) ≡ Some 1
outer = refl

no_binder : level_of (122 ∷ []) (name (120 ∷ []) ∷ []) ≡ None
no_binder = refl

-- ---- words

-- a constructor before a function, and each by its place in its own list
first_kind : word_in (record { types = []; constructors = (120 ∷ []) ∷ []; functions = (120 ∷ []) ∷ []; program = None }) (120 ∷ []) ≡ Some (meaning.constructor 1)
first_kind = refl

second_function : word_in (record { types = []; constructors = (99 ∷ []) ∷ []; functions = (102 ∷ []) ∷ (103 ∷ []) ∷ []; program = None }) (103 ∷ []) ≡ Some (meaning.function 2)
second_function = refl

program_word : word_in (record { types = []; constructors = []; functions = []; program = Some (112 ∷ []) }) (112 ∷ []) ≡ Some meaning.the_program
program_word = refl

type_word : word_in (record { types = (116 ∷ []) ∷ []; constructors = []; functions = []; program = None }) (116 ∷ []) ≡ None
type_word = refl
