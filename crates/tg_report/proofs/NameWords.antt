-- The names of an accepted theory are words that the grammar reads as names.
use Rattle.std.proofs.Common.{◌≡◌, ℕ, zero, suc, Bool, true, false, ◌||◌, List, [], ◌∷◌, ◌++◌, map, slice_get, Some, None, inl, inr, refl}
use Rattle.std.proofs.Common.{sym, ap, subst, ◌∙◌}
use Rattle.std.specs.Prelude.{is_some, IsSome, Option}
use Rattle.std.specs.List.{list_all}
use Rattle.std.specs.Str.{bytes_eq}
use Rattle.std.specs.Option.{option_map_or}
use Rattle.std.proofs.lemmas.Bool.{and_parts, cases_Bool}
use Rattle.tg_tables.specs.Rows.{Entry}
use Rattle.tg_tables.specs.Lists.{reserved_words}
use Rattle.tg_lex.specs.Grammar.{code_in}
use Rattle.tg_lex.proofs.Texts.{is_name}
use Rattle.tg_rules.specs.Rule.{has}
use Rattle.tg_model.specs.Theory.{Theory, Datatype, Constructor, Function, Owned, numbered, constructors_from, constructor_at}
use Rattle.tg_model.specs.Accepted.{constructor_names}
use Rattle.tg_grammar.specs.Kinds.{other_word}
use Rattle.tg_grammar.specs.Seen.{code_or, word_kind}
use Rattle.tg_grammar.specs.Words.{version_one, local_kinds}
use Rattle.tg_theory.specs.Names.{IsName, AreNames}
use Rattle.tg_theory.specs.Wholes.{IsWritten}
use Rattle.tg_render.specs.Tokens.{IsNameWord}
use Rattle.tg_report.specs.Names.{datatype_name, constructor_name, function_name, constructors_of, name_at}

abbrev names : List ℕ
names = other_word ∷ local_kinds

-- a word with a kind of its own is a name or reserved
abbrev is_known : Entry → Bool
is_known e = has names e.code || is_some (code_in reserved_words e.name)

all_known : list_all is_known version_one ≡ true
all_known = refl

no_code : (text : List ℕ) → code_in reserved_words text ≡ None → is_some (code_in reserved_words text) ≡ true → ⊥
no_code text free found = let wrong : false ≡ true = sym (ap is_some free) ∙ found in cc

known_name : (e : Entry) (text : List ℕ) → e.name ≡ text → is_known e ≡ true → code_in reserved_words text ≡ None → has names e.code ≡ true
known_name e text same known free = elim (cases_Bool (has names e.code)) [
  | inl named ↦ named
  | inr other ↦ absurd (no_code e.name (ap (code_in reserved_words) same ∙ free) (rw other at known))
]

kind_among : (es : List Entry) (text : List ℕ) → list_all is_known es ≡ true → code_in reserved_words text ≡ None
    → has names (code_or other_word es text) ≡ true
kind_among [] text known free = refl
kind_among (e ∷ es) text known free =
    let parts = and_parts (is_known e) (list_all is_known es) known in
    elim (cases_Bool (bytes_eq e.name text)) [
      | inl same ↦ rw same (known_name e text (is_name e.name text same) parts.0 free)
      | inr other ↦ rw other (kind_among es text parts.1 free)
    ]

pub name_word : (text : List ℕ) → IsName text → IsNameWord text
unfolding word_kind
name_word text n = (n.word, kind_among version_one text all_known n.free)

-- ---- the names by number

type_at : (xs : List Datatype) (i : ℕ) (x : Datatype) → AreNames (map (λ (y : Datatype). y.name) xs) → slice_get xs i ≡ Some x → IsName x.name
type_at [] i x h e = absurd cc
type_at (y ∷ xs) zero x (n, h) e = let same : y ≡ x = cc in subst (λ (z : Datatype). IsName z.name) same n
type_at (y ∷ xs) (suc i) x (n, h) e = type_at xs i x h e

pub type_named : (th : Theory) (d : ℕ) (x : Datatype) → IsWritten th → numbered th.datatypes d ≡ Some x → IsName (datatype_name th d)
type_named th zero x w e = absurd cc
type_named th (suc i) x w e =
    subst IsName (sym (ap (λ o. option_map_or (λ (y : Datatype). y.name) o []) e)) (type_at th.datatypes i x w.types e)

first_names : (xs ys : List (List ℕ)) → AreNames (xs ++ ys) → AreNames xs
first_names [] ys h = tt
first_names (x ∷ xs) ys (n, h) = (n, first_names xs ys h)

last_names : (xs ys : List (List ℕ)) → AreNames (xs ++ ys) → AreNames ys
last_names [] ys h = h
last_names (x ∷ xs) ys (n, h) = last_names xs ys h

abbrev owned : ℕ → Constructor → Owned
owned d c = record { datatype = d; constructor = c }

-- each of some constructors has a name
abbrev AllNamed : List Owned → Type 0
AllNamed os = (i : ℕ) (o : Owned) → slice_get os i ≡ Some o → IsName o.constructor.name

behind : (d : ℕ) (cs : List Constructor) (os : List Owned) → AreNames (map (λ (c : Constructor). c.name) cs) → AllNamed os
    → AllNamed (map (owned d) cs ++ os)
behind d [] os h all i o e = all i o e
behind d (c ∷ cs) os (n, h) all zero o e = let same : owned d c ≡ o = cc in subst (λ (z : Owned). IsName z.constructor.name) same n
behind d (c ∷ cs) os (n, h) all (suc i) o e = behind d cs os h all i o e

all_named : (d : ℕ) (xs : List Datatype) → AreNames (constructor_names xs) → AllNamed (constructors_from d xs)
all_named d [] h i o e = absurd cc
all_named d (x ∷ xs) h i o e =
    let own = map (λ (c : Constructor). c.name) x.constructors in
    behind d x.constructors (constructors_from (suc d) xs) (first_names own (constructor_names xs) h)
    (all_named (suc d) xs (last_names own (constructor_names xs) h)) i o e

owner_named : (th : Theory) (c : ℕ) (o : Owned) → IsWritten th → constructor_at th c ≡ Some o → IsName (constructor_name th c)
owner_named th zero o w e = absurd cc
owner_named th (suc i) o w e =
    subst IsName (sym (ap (λ p. option_map_or (λ (q : Owned). q.constructor.name) p []) e))
    (all_named 1 th.datatypes (first_names (constructor_names th.datatypes) _ w.values) i o e)

pub constructor_named : (th : Theory) (c : ℕ) → IsWritten th → IsSome (constructor_at th c) → IsName (constructor_name th c)
constructor_named th c w s = found (constructor_at th c) refl s where
  found : (p : Option Owned) → constructor_at th c ≡ p → IsSome p → IsName (constructor_name th c)
  found (Some o) e s = owner_named th c o w e
  found None e s = absurd cc

function_at : (xs : List Function) (ys : List (List ℕ)) (i : ℕ) (x : Function) → AreNames (map (λ (y : Function). y.name) xs ++ ys)
    → slice_get xs i ≡ Some x → IsName x.name
function_at [] ys i x h e = absurd cc
function_at (y ∷ xs) ys zero x (n, h) e = let same : y ≡ x = cc in subst (λ (z : Function). IsName z.name) same n
function_at (y ∷ xs) ys (suc i) x (n, h) e = function_at xs ys i x h e

pub function_named : (th : Theory) (f : ℕ) → IsWritten th → IsSome (numbered th.functions f) → IsName (function_name th f)
function_named th zero w s = absurd cc
function_named th (suc i) w s = found (slice_get th.functions i) refl s where
  found : (p : Option Function) → slice_get th.functions i ≡ p → IsSome p → IsName (function_name th (suc i))
  found (Some x) e s =
      subst IsName (sym (ap (λ o. option_map_or (λ (y : Function). y.name) o []) e))
      (function_at th.functions (th.program.name ∷ []) i x (last_names (constructor_names th.datatypes) _ w.values) e)
  found None e s = absurd cc

pub program_named : (th : Theory) → IsWritten th → IsName th.program.name
program_named th w =
    (last_names (map (λ (x : Function). x.name) th.functions) (th.program.name ∷ []) (last_names (constructor_names th.datatypes) _ w.values)).0

-- the constructors of a datatype have names
own_names : (xs : List Datatype) (i : ℕ) → AreNames (constructor_names xs)
    → AreNames (map (λ (c : Constructor). c.name) (option_map_or (λ (x : Datatype). x.constructors) (slice_get xs i) []))
own_names [] i h = tt
own_names (x ∷ xs) zero h = first_names (map (λ (c : Constructor). c.name) x.constructors) (constructor_names xs) h
own_names (x ∷ xs) (suc i) h = own_names xs i (last_names (map (λ (c : Constructor). c.name) x.constructors) (constructor_names xs) h)

named_at : (cs : List Constructor) (j : ℕ) → AreNames (map (λ (c : Constructor). c.name) cs) → IsSome (slice_get cs j) → IsName (name_at cs j)
named_at [] j h s = absurd cc
named_at (c ∷ cs) zero (n, h) s = n
named_at (c ∷ cs) (suc j) (n, h) s = named_at cs j h s

pub place_named : (th : Theory) (d j : ℕ) → IsWritten th → IsSome (slice_get (constructors_of th (suc d)) j)
    → IsName (name_at (constructors_of th (suc d)) j)
place_named th d j w s = named_at (constructors_of th (suc d)) j (own_names th.datatypes d (first_names (constructor_names th.datatypes) _ w.values)) s
