-- The names in a text are words that aren't reserved.
use Rattle.std.proofs.Common.{ℕ, zero, suc, ◌≡◌, Bool, true, false, not, ◌&&◌, List, [], ◌∷◌, ◌++◌, map, Option, Some, None, refl, sym, ◌∙◌, ap, subst, inl, inr, ◌⊎◌, ◌||◌, IsTrue, arith}
use Rattle.std.specs.List.{All, list_all}
use Rattle.std.specs.Str.{bytes_eq}
use Rattle.std.proofs.lemmas.Slice.Eq.{bytes_eq-Decides}
use Rattle.tg_rules.specs.Rule.{Rule, tok, nt, seq, alt, opt, act, has}
use Rattle.tg_rules.specs.Repetition.{listed}
use Rattle.tg_rules.specs.Texts.{Is, Within, Reads}
use Rattle.tg_tables.specs.Rows.{Entry}
use Rattle.tg_tables.specs.Lists.{symbol_list, reserved_words}
use Rattle.tg_lex.specs.declared.token.Kind.TheVariants.{Word, TyVar, Number, Sym}
use Rattle.tg_lex.specs.declared.token.Kind.{Kind}
use Rattle.tg_lex.specs.declared.token.Token.{Token}
use Rattle.tg_lex.specs.Grammar.{IsTokenOf, Spells, is_word, code_in, value}
use Rattle.tg_lex.specs.Load.{text_of}
use Rattle.tg_grammar.specs.Kinds.{other_word, type_variable, zero_number, one_number, two_number, small_number, other_number}
use Rattle.std.specs.Prelude.{◌==◌, nat_le, if◌then◌else◌}
use Rattle.tg_accept.specs.Datatypes.{names_in}
use Rattle.tg_grammar.specs.Notation.{Grammar, word}
use Rattle.tg_grammar.specs.Page.{page, datatype, primrec, definition, program, specification}
use Rattle.tg_grammar.specs.Parts.{Part, Value}
use Rattle.tg_grammar.specs.Parts as parts
use Rattle.tg_grammar.specs.Reading.{kind, IsText}
use Rattle.tg_grammar.specs.Seen.{Seen, seen, seen_token, kind_of, word_kind, number_kind}
use Rattle.tg_grammar.specs.Words.{version_one, local_kinds}
use Rattle.tg_grammar.specs.declared.declarations.RawTheory.{RawTheory}
use Rattle.tg_grammar.specs.declared.declarations.RawDecl.{RawDecl}
use Rattle.tg_grammar.specs.declared.declarations.RawDecl.TheVariants as declarations
use Rattle.tg_grammar.specs.declared.declarations.RawConDef.{RawConDef}
use Rattle.tg_theory.specs.Names.{IsName, AreNames}
use Rattle.tg_infer.specs.Named.{names_declared, AreNamed}
use Rattle.tg_infer.specs.TextNames.{IsNamed, TextsAreNamed}
use Rattle.tg_infer.specs.View.{raw_declaration, raw_constructor}

abbrev pub name_kinds : List ℕ
name_kinds = other_word ∷ local_kinds

-- a token of a kind of names is a name
pub record IsNameToken (s : Seen) : Type 0 where
  pub named : has name_kinds s.kind ≡ true → IsName s.text

abbrev pub AreNameTokens : List Seen → Type 0
AreNameTokens [] = Unit {0}
AreNameTokens (s ∷ ss) = IsNameToken s × AreNameTokens ss

front : (p q : List Seen) → AreNameTokens (p ++ q) → AreNameTokens p
front [] q h = tt
front (s ∷ p) q h = (h.0, front p q h.1)

back : (p q : List Seen) → AreNameTokens (p ++ q) → AreNameTokens q
back [] q h = h
back (s ∷ p) q h = back p q h.1

-- ---- what a rule says of a value, the tokens aside

pub record Both (A B : Type 0) : Type 0 where
  pub first : A
  pub second : B

pub record Made {A B : Type 0} (f : A → B) (P : A → Type 0) (v : B) : Type 0 where
  pub of : A
  pub is : v ≡ f of
  pub holds : P of

pub record IsRead (ks : List ℕ) (s : Seen) : Type 0 where
  pub is : has ks s.kind ≡ true
  pub named : IsNameToken s

module _ (R : (n : Part) → Value n → Type 0) where
  abbrev pub Says : {A : Type 0} → Grammar A → A → Type 0
  Says (tok k ks) v = IsRead (k ∷ ks) v
  Says (nt n) v = R n v
  Says (seq g h) v = Both (Says g v.0) (Says h v.1)
  Says (alt g h) v = Says g v ⊎ Says h v
  Says (opt {A} g) v = (v ≡ None) ⊎ ((a : A) × (v ≡ Some a) × Says g a)
  Says (act {A} f g) v = Made f (Says g) v

  module _ (Q : (n : Part) → Value n → List Seen → Type 0) (each : (n : Part) (v : Value n) (ts : List Seen) → Q n v ts → AreNameTokens ts → R n v) where
    says : {A : Type 0} (g : Grammar A) (v : A) (ts : List Seen) → Is kind Q g v ts → AreNameTokens ts → Says g v
    says (tok k ks) v ts h w = record { is = h.0; named = (subst AreNameTokens h.1 w).0 }
    says (nt n) v ts h w = each n v ts h w
    says (seq g h) v ts (p, q, a, b, e) w =
        let s : AreNameTokens (p ++ q) = subst AreNameTokens e w in
        record { first = says g v.0 p a (front p q s); second = says h v.1 q b (back p q s) }
    says (alt g h) v ts (inl a) w = inl (says g v ts a w)
    says (alt g h) v ts (inr b) w = inr (says h v ts b w)
    says (opt g) v ts (inl n) w = inl n.0
    says (opt g) v ts (inr (a, e, h)) w = inr (a, e, says g a ts h w)
    says (act f g) v ts (a, e, h) w = record { of = a; is = e; holds = says g a ts h w }

-- ---- the parts that declare names

abbrev pub AreConstructorNames : List RawConDef → Type 0
AreConstructorNames [] = Unit {0}
AreConstructorNames (c ∷ cs) = IsName c.name × AreConstructorNames cs

abbrev pub IsDeclarationNamed : RawDecl → Type 0
IsDeclarationNamed (declarations.Datatype x params cs) = IsName x × AreConstructorNames cs
IsDeclarationNamed (declarations.Primrec x ts es) = IsName x
IsDeclarationNamed (declarations.Definition x ts es) = IsName x
IsDeclarationNamed (declarations.Program x ts) = IsName x
IsDeclarationNamed (declarations.Spec xs body) = Unit {0}

abbrev pub AreDeclarationsNamed : List RawDecl → Type 0
AreDeclarationsNamed [] = Unit {0}
AreDeclarationsNamed (d ∷ ds) = IsDeclarationNamed d × AreDeclarationsNamed ds

pub record IsTheoryNamed (v : RawTheory) : Type 0 where
  pub name : IsName v.name
  pub declared : AreDeclarationsNamed v.decls

abbrev pub IsPartNamed : (n : Part) → Value n → Type 0
IsPartNamed parts.Theory v = IsTheoryNamed v
IsPartNamed parts.Judge v = IsTheoryNamed v.0
IsPartNamed parts.Check v = IsTheoryNamed v.0
IsPartNamed parts.Declarations v = AreDeclarationsNamed v
IsPartNamed parts.Declaration v = IsDeclarationNamed v
IsPartNamed parts.Constructor v = IsName v.name
IsPartNamed parts.MoreConstructors v = AreConstructorNames v
IsPartNamed _ v = Unit {0}

word_named : (x : List ℕ) → Says IsPartNamed word x → IsName x
word_named x h = subst IsName (sym h.is) (h.holds.named.named h.holds.is)

theory_named : (v : RawTheory) → Says IsPartNamed (page parts.Theory) v → IsTheoryNamed v
theory_named v h =
    let a = h.holds in
    let b = a.holds.second.second in
    let c = b.holds.second in
    let d = c.holds.second in
    let e = d.holds.second in
    record {
      name = subst IsName (sym (ap (λ (w : RawTheory). w.name) h.is ∙ ap (λ p. p.0) a.is)) (word_named a.of.1.0 a.holds.second.first);
      declared =
          subst AreDeclarationsNamed (sym (ap (λ (w : RawTheory). w.decls) h.is ∙ ap (λ p. p.1) a.is ∙ b.is ∙ c.is ∙ d.is ∙ e.is)) e.holds.first;
    }

declarations_named : (v : List RawDecl) → Says IsPartNamed (page parts.Declarations) v → AreDeclarationsNamed v
declarations_named v h = elim h.holds [
  | inl n ↦ subst AreDeclarationsNamed (sym (h.is ∙ ap listed n)) tt
  | inr p ↦ subst AreDeclarationsNamed (sym (h.is ∙ ap listed p.1)) (p.2.first, p.2.second)
]

datatype_named : (v : RawDecl) → Says IsPartNamed datatype v → IsDeclarationNamed v
datatype_named v h =
    let a = h.holds in
    let b = a.holds.second.second.second in
    let c = b.holds.second in
    let k = c.holds.first in
    subst IsDeclarationNamed (sym (h.is ∙ ap (λ p. declarations.Datatype p.1.0 p.0 p.1.1) a.is))
    (word_named a.of.1.1.0 a.holds.second.second.first, subst AreConstructorNames (sym (b.is ∙ c.is ∙ k.is)) (k.holds.first, k.holds.second))

primrec_named : (v : RawDecl) → Says IsPartNamed primrec v → IsDeclarationNamed v
primrec_named v h =
    let a = h.holds in
    subst IsDeclarationNamed (sym (h.is ∙ ap (λ p. declarations.Primrec p.0 p.1.0 p.1.1) a.is)) (word_named a.of.1.0 a.holds.second.first)

definition_named : (v : RawDecl) → Says IsPartNamed definition v → IsDeclarationNamed v
definition_named v h =
    let a = h.holds in
    subst IsDeclarationNamed (sym (h.is ∙ ap (λ p. declarations.Definition p.0 p.1.0 p.1.1) a.is)) (word_named a.of.1.0 a.holds.second.first)

program_named : (v : RawDecl) → Says IsPartNamed program v → IsDeclarationNamed v
program_named v h =
    let a = h.holds in
    subst IsDeclarationNamed (sym (h.is ∙ ap (λ p. declarations.Program p.0 p.1) a.is)) (word_named a.of.1.0 a.holds.second.first)

specification_named : (v : RawDecl) → Says IsPartNamed specification v → IsDeclarationNamed v
specification_named v h = subst IsDeclarationNamed (sym h.is) tt

declaration_named : (v : RawDecl) → Says IsPartNamed (page parts.Declaration) v → IsDeclarationNamed v
declaration_named v (inl h) = datatype_named v h
declaration_named v (inr (inl h)) = primrec_named v h
declaration_named v (inr (inr (inl h))) = definition_named v h
declaration_named v (inr (inr (inr (inl h)))) = program_named v h
declaration_named v (inr (inr (inr (inr h)))) = specification_named v h

constructor_named : (v : RawConDef) → Says IsPartNamed (page parts.Constructor) v → IsName v.name
constructor_named v h = subst IsName (sym (ap (λ (w : RawConDef). w.name) h.is)) (word_named h.of.0 h.holds.first)

constructors_named : (v : List RawConDef) → Says IsPartNamed (page parts.MoreConstructors) v → AreConstructorNames v
constructors_named v h = elim h.holds [
  | inl n ↦ subst AreConstructorNames (sym (h.is ∙ ap listed n)) tt
  | inr p ↦
      let a = p.2 in
      subst AreConstructorNames (sym (h.is ∙ ap listed (p.1 ∙ ap Some a.is))) (a.holds.second.first, a.holds.second.second)
]

step : (n : Part) (v : Value n) → Says IsPartNamed (page n) v → IsPartNamed n v
step parts.Judge v h = h.first
step parts.Check v h = h.first
step parts.Theory v h = theory_named v h
step parts.Declarations v h = declarations_named v h
step parts.Declaration v h = declaration_named v h
step parts.Constructor v h = constructor_named v h
step parts.MoreConstructors v h = constructors_named v h
step _ v h = tt

within : (height : ℕ) (n : Part) (v : Value n) (ts : List Seen) → Within kind page height n v ts → AreNameTokens ts → IsPartNamed n v
within zero n v ts h w = absurd h
within (suc height) n v ts h w = step n v (says IsPartNamed (Within kind page height) (λ m u us k x. within height m u us k x) (page n) v ts h w)

-- ---- the tokens of a text

-- in a list a name, and its code, passes a test that all of them pass
listed_passes : (P : List ℕ → ℕ → Bool) (es : List Entry) (text : List ℕ) (c : ℕ) → list_all (λ (e : Entry). P e.name e.code) es ≡ true → code_in es text ≡ Some c
    → P text c ≡ true
listed_passes P [] text c h e = cc e
listed_passes P (x ∷ es) text c h e = go (bytes_eq x.name text) refl (P x.name x.code) refl h (λ k l. listed_passes P es text c k l)
  where
    code : Option ℕ → ℕ
    code None = c
    code (Some n) = n

    go : (b : Bool) → bytes_eq x.name text ≡ b → (q : Bool) → P x.name x.code ≡ q → (q && list_all (λ (y : Entry). P y.name y.code) es) ≡ true
        → (list_all (λ (y : Entry). P y.name y.code) es ≡ true → code_in es text ≡ Some c → P text c ≡ true) → P text c ≡ true
    go b f false g k r = cc k
    go true f true g k r =
        let same : x.code ≡ c = ap code (sym (ap (λ b. if b then Some x.code else code_in es text) f) ∙ e) in
        (λ i. P (sym ((bytes_eq-Decides x.name text).0 f) i) (sym same i)) ∙ g
    go false f true g k r = r k (sym (ap (λ b. if b then Some x.code else code_in es text) f) ∙ e)

no_reserved : list_all (λ (e : Entry). not (has name_kinds (word_kind version_one e.name))) reserved_words ≡ true
unfolding word_kind
no_reserved = refl

no_symbol : list_all (λ (e : Entry). not (has name_kinds e.code)) symbol_list ≡ true
no_symbol = refl

no_number : (n : ℕ) → has name_kinds (number_kind n) ≡ false
no_number n = go (0 == n) (1 == n) (2 == n) (nat_le 3 n && nat_le n 8)
  where
    go : (a b c d : Bool)
        → has name_kinds (if a then zero_number else if b then one_number else if c then two_number else if d then small_number else other_number) ≡ false
    go true b c d = refl
    go false true c d = refl
    go false false true d = refl
    go false false false true = refl
    go false false false false = refl

token_named : (bytes : List ℕ) (t : Token) → IsTokenOf bytes t → IsNameToken (seen_token version_one bytes t)
token_named bytes t h = record { named = λ e. go t.kind h.spelled e }
  where
    text : List ℕ
    text = text_of bytes t

    contrary : (b : Bool) → b ≡ true → not b ≡ true → ⊥
    contrary true e f = cc f
    contrary false e f = cc e

    go : (k : Kind) → Spells k (text_of bytes t) → has name_kinds (kind_of version_one k (text_of bytes t)) ≡ true → IsName (text_of bytes t)
    go Word s e = record { word = s; free = none (code_in reserved_words (text_of bytes t)) refl }
      where
        none : (o : Option ℕ) → code_in reserved_words (text_of bytes t) ≡ o → o ≡ None
        none None f = refl
        none (Some c) f =
            absurd (contrary (has name_kinds (word_kind version_one (text_of bytes t))) e
            (listed_passes (λ x n. not (has name_kinds (word_kind version_one x))) reserved_words (text_of bytes t) c no_reserved f))
    go TyVar s e = cc e
    go Number s e = let q : false ≡ true = sym (no_number (value (text_of bytes t))) ∙ e in cc q
    go (Sym c) s e = absurd (contrary (has name_kinds c) e (listed_passes (λ x n. not (has name_kinds n)) symbol_list (text_of bytes t) c no_symbol s))

tokens_named : (bytes : List ℕ) (ts : List Token) → All (IsTokenOf bytes) ts → AreNameTokens (seen bytes ts)
tokens_named bytes [] h = tt
tokens_named bytes (t ∷ ts) h = (token_named bytes t (h 0 t (omega arith)), tokens_named bytes ts (λ k d l. h (suc k) d (omega (arith, l))))

-- ---- the names that are declared

constructors_of : (cs : List RawConDef) → AreConstructorNames cs → AreNames (names_in (map raw_constructor cs))
constructors_of [] h = tt
constructors_of (c ∷ cs) h = (h.0, constructors_of cs h.1)

names_of : (d : RawDecl) → IsDeclarationNamed d → AreNames (names_declared (raw_declaration d))
names_of (declarations.Datatype x params cs) h = (h.0, constructors_of cs h.1)
names_of (declarations.Primrec x ts es) h = (h, tt)
names_of (declarations.Definition x ts es) h = (h, tt)
names_of (declarations.Program x ts) h = (h, tt)
names_of (declarations.Spec xs body) h = tt

all_names : (ds : List RawDecl) → AreDeclarationsNamed ds → AreNamed (map raw_declaration ds)
all_names [] h = tt
all_names (d ∷ ds) h = (names_of d h.0, all_names ds h.1)

is_named : (v : RawTheory) → IsTheoryNamed v → IsNamed v
is_named v h = record { name = h.name; declared = all_names v.decls h.declared }

pub texts_are_named : TextsAreNamed
texts_are_named = record {
  alone = λ bytes tokens v h r. is_named v (within r.0 parts.Theory v (seen bytes tokens) r.1 (tokens_named bytes tokens h));
  judged = λ bytes tokens v h r. is_named v.0 (within r.0 parts.Judge v (seen bytes tokens) r.1 (tokens_named bytes tokens h));
  checked = λ bytes tokens v h r. is_named v.0 (within r.0 parts.Check v (seen bytes tokens) r.1 (tokens_named bytes tokens h));
}
