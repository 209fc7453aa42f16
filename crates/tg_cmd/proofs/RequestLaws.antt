-- Words ask for one thing at most.
use Rattle.std.proofs.Common.{ℕ, ◌≡◌, ◌≢◌, ◌≤◌, ◌-◌, Bool, true, false, nat_eq, List, [], ◌∷◌, length, drop, take, get_or, refl, sym, ap, ◌∙◌, subst, arith}
use Rattle.std.proofs.lemmas.List.{take_rest}
use Rattle.std.specs.List.{list_all}
use Rattle.std.specs.Prelude.{◌&&◌, if◌then◌else◌}
use Rattle.tg_lex.specs.Bytes.{is_letter, is_name_byte}
use Rattle.tg_lex.specs.Grammar.{is_word}
use Rattle.tg_types.specs.declared.options.Settings.{Settings}
use Rattle.tg_cmd.specs.Options.{ReadsOptions}
use Rattle.tg_cmd.specs.Requests.{Request, generate, harness, judge, simulate, check, ReadsWords, IsCommand, AskFor, command_word, NamesWith}
use Rattle.tg_cmd.specs.declared.request.Command.{Command}
use Rattle.tg_cmd.specs.declared.request.Command.TheVariants.{Generate, Harness, Judge, Simulate, Check}
use Rattle.tg_cmd.proofs.Choices.{one_settings}

-- the command of a request, and what stands behind its word
abbrev pub command_of : Request → Command
command_of (generate s) = Generate
command_of (harness s) = Harness
command_of (judge s) = Judge
command_of (simulate name s) = Simulate
command_of check = Check

abbrev pub Behind : Request → List (List ℕ) → Type 0
Behind (generate s) rest = ReadsOptions rest s
Behind (harness s) rest = ReadsOptions rest s
Behind (judge s) rest = ReadsOptions rest s
Behind (simulate name s) rest = NamesWith rest name s
Behind check rest = rest ≡ []

pub reads : (words rest : List (List ℕ)) (word : List ℕ) (r : Request) → words ≡ word ∷ rest → word ≡ command_word (command_of r) → Behind r rest → ReadsWords words r
reads words rest word (generate s) cut e h = (rest, cut ∙ ap (λ w. w ∷ rest) e, h)
reads words rest word (harness s) cut e h = (rest, cut ∙ ap (λ w. w ∷ rest) e, h)
reads words rest word (judge s) cut e h = (rest, cut ∙ ap (λ w. w ∷ rest) e, h)
reads words rest word (simulate name s) cut e (named, (behind, f, h)) = (named, (behind, cut ∙ (λ i. e i ∷ f i), h))
reads words rest word check cut e h = cut ∙ (λ i. e i ∷ h i)

cut_of : (words : List (List ℕ)) (r : Request) → ReadsWords words r → (rest : List (List ℕ)) × (words ≡ command_word (command_of r) ∷ rest) × Behind r rest
cut_of words (generate s) h = h
cut_of words (harness s) h = h
cut_of words (judge s) h = h
cut_of words (simulate name s) (named, (rest, e, h)) = (name ∷ rest, e, (named, (rest, refl, h)))
cut_of words check h = ([], h, refl)

-- commands differ in their first byte
abbrev command_from : List ℕ → Command
command_from [] = Generate
command_from (b ∷ bs) =
    if nat_eq b 103 then Generate else if nat_eq b 104 then Harness else if nat_eq b 106 then Judge
    else if nat_eq b 115 then Simulate else Check

read_back : (c : Command) → command_from (command_word c) ≡ c
read_back Generate = refl
read_back Harness = refl
read_back Judge = refl
read_back Simulate = refl
read_back Check = refl

one_command : (c d : Command) → command_word c ≡ command_word d → c ≡ d
one_command c d e = sym (read_back c) ∙ ap command_from e ∙ read_back d

first_word : (v w : List ℕ) (vs ws : List (List ℕ)) → v ∷ vs ≡ w ∷ ws → v ≡ w
first_word v w vs ws e = cc e

other_words : (v w : List ℕ) (vs ws : List (List ℕ)) → v ∷ vs ≡ w ∷ ws → vs ≡ ws
other_words v w vs ws e = cc e

-- what words that begin so can ask for
found : (words rest : List (List ℕ)) (word : List ℕ) (c : Command) → words ≡ word ∷ rest → word ≡ command_word c → (r : Request) → ReadsWords words r
    → (c ≡ command_of r) × Behind r rest
found words rest word c cut e r h =
    let k = cut_of words r h in
    let same = sym cut ∙ k.1 in (
      one_command c (command_of r) (sym e ∙ first_word _ _ _ _ same),
      subst (Behind r) (sym (other_words _ _ _ _ same)) k.2,
    )

one_named : (words : List (List ℕ)) (name name' : List ℕ) (s t : Settings) → NamesWith words name s → NamesWith words name' t → (name ≡ name') × (s ≡ t)
one_named words name name' s t (named, (rest, e, h)) (named', (rest', e', h')) =
    let same = sym e ∙ e' in
    (first_word _ _ _ _ same, one_settings rest' s t (subst (λ ws. ReadsOptions ws s) (other_words _ _ _ _ same) h) h')

-- the request of a command that has this behind it
abbrev Requested : Command → List (List ℕ) → Request → Type 0
Requested Generate rest r = (s : Settings) × (r ≡ generate s) × ReadsOptions rest s
Requested Harness rest r = (s : Settings) × (r ≡ harness s) × ReadsOptions rest s
Requested Judge rest r = (s : Settings) × (r ≡ judge s) × ReadsOptions rest s
Requested Simulate rest r = (name : List ℕ) × (s : Settings) × (r ≡ simulate name s) × NamesWith rest name s
Requested Check rest r = r ≡ check

requested : (rest : List (List ℕ)) (r : Request) → Behind r rest → Requested (command_of r) rest r
requested rest (generate s) h = (s, refl, h)
requested rest (harness s) h = (s, refl, h)
requested rest (judge s) h = (s, refl, h)
requested rest (simulate name s) h = (name, s, refl, h)
requested rest check h = refl

one_requested : (c : Command) (rest : List (List ℕ)) (r q : Request) → Requested c rest r → Requested c rest q → r ≡ q
one_requested Generate rest r q (s, e, h) (t, f, k) = e ∙ ap generate (one_settings rest s t h k) ∙ sym f
one_requested Harness rest r q (s, e, h) (t, f, k) = e ∙ ap harness (one_settings rest s t h k) ∙ sym f
one_requested Judge rest r q (s, e, h) (t, f, k) = e ∙ ap judge (one_settings rest s t h k) ∙ sym f
one_requested Simulate rest r q (name, s, e, h) (name', t, f, k) =
    let same = one_named rest name name' s t h k in e ∙ (λ i. simulate (same.0 i) (same.1 i)) ∙ sym f
one_requested Check rest r q e f = e ∙ sym f

one_behind : (rest : List (List ℕ)) (r q : Request) → command_of r ≡ command_of q → Behind r rest → Behind q rest → r ≡ q
one_behind rest r q e h k =
    one_requested (command_of q) rest r q (subst (λ c. Requested c rest r) e (requested rest r h)) (requested rest q k)

-- words that begin so, with this behind, ask for this
pub asks : (words rest : List (List ℕ)) (word : List ℕ) (r : Request) → words ≡ word ∷ rest → word ≡ command_word (command_of r) → Behind r rest → AskFor words r
asks words rest word r cut e h = record {
  reads = reads words rest word r cut e h;
  only = λ q k. let f = found words rest word (command_of r) cut e q k in one_behind rest r q f.0 h f.1;
}

pub asks_nothing : (words : List (List ℕ)) → words ≡ [] → IsCommand words → ⊥
asks_nothing words e (r, h) = let k = cut_of words r h in let wrong : [] ≡ command_word (command_of r) ∷ k.0 = sym e ∙ k.1 in absurd cc

pub no_command : (words rest : List (List ℕ)) (word : List ℕ) → words ≡ word ∷ rest → ((c : Command) → word ≢ command_word c) → IsCommand words → ⊥
no_command words rest word cut none (r, h) =
    let k = cut_of words r h in none (command_of r) (first_word _ _ _ _ (sym cut ∙ k.1))

-- where the command wants options alone, or a name in front of them, or nothing
abbrev pub WantsBehind : Command → List (List ℕ) → Type 0
WantsBehind Generate rest = (s : Settings) × ReadsOptions rest s
WantsBehind Harness rest = (s : Settings) × ReadsOptions rest s
WantsBehind Judge rest = (s : Settings) × ReadsOptions rest s
WantsBehind Simulate rest = (name : List ℕ) × (s : Settings) × NamesWith rest name s
WantsBehind Check rest = rest ≡ []

wanted : (r : Request) (rest : List (List ℕ)) → Behind r rest → WantsBehind (command_of r) rest
wanted (generate s) rest h = (s, h)
wanted (harness s) rest h = (s, h)
wanted (judge s) rest h = (s, h)
wanted (simulate name s) rest h = (name, s, h)
wanted check rest h = h

pub nothing_behind : (words rest : List (List ℕ)) (word : List ℕ) (c : Command) → words ≡ word ∷ rest → word ≡ command_word c → (WantsBehind c rest → ⊥)
    → IsCommand words → ⊥
nothing_behind words rest word c cut e none (r, h) =
    let f = found words rest word c cut e r h in none (subst (λ d. WantsBehind d rest) (sym f.0) (wanted r rest f.1))

-- ---- names

pub word_then : (bytes : List ℕ) (names : Bool) → 1 ≤ length bytes → true ≡ is_letter (get_or bytes 0 0)
    → names ≡ list_all is_name_byte (take (length bytes - 1) (drop 1 bytes)) → names ≡ is_word bytes
word_then [] names low e f = absurd (omega (arith, low))
word_then (b ∷ bs) names low e f = λ i. e i && (f ∙ ap (list_all is_name_byte) (take_rest (b ∷ bs) 1)) i

pub word_else : (bytes : List ℕ) → 1 ≤ length bytes → false ≡ is_letter (get_or bytes 0 0) → false ≡ is_word bytes
word_else [] low e = absurd (omega (arith, low))
word_else (b ∷ bs) low e = λ i. e i && list_all is_name_byte bs

pub with_name : (words rest : List (List ℕ)) (name : List ℕ) (s : Settings) → words ≡ name ∷ rest → is_word name ≡ true → ReadsOptions rest s → NamesWith words name s
with_name words rest name s cut word h = (word, (rest, cut, h))

pub no_name : (words rest : List (List ℕ)) (word : List ℕ) → words ≡ word ∷ rest → is_word word ≡ false → (name : List ℕ) (s : Settings) → NamesWith words name s → ⊥
no_name words rest word cut wrong name s (named, (behind, e, h)) =
    let bad : false ≡ true = sym wrong ∙ ap is_word (first_word _ _ _ _ (sym cut ∙ e)) ∙ named in absurd cc

pub no_options : (words rest : List (List ℕ)) (word : List ℕ) → words ≡ word ∷ rest → ((s : Settings) → ReadsOptions rest s → ⊥) → (name : List ℕ) (s : Settings)
    → NamesWith words name s → ⊥
no_options words rest word cut none name s (named, (behind, e, h)) =
    none s (subst (λ ws. ReadsOptions ws s) (sym (other_words _ _ _ _ (sym cut ∙ e))) h)
