-- What the text of a value means.
use Rattle.std.proofs.Common.{ℕ, suc, ◌≡◌, ◌+◌, ◌↔◌, Bool, true, false, List, [], ◌∷◌, ◌++◌, map, drop, Option, Some, None, refl, sym, ◌∙◌, ap, subst, arith}
use Rattle.std.specs.Prelude.{option_map, option_and_then, slice_get}
use Rattle.std.proofs.lemmas.List.{map-append}
use Rattle.tg_model.specs.Theory.{Theory}
use Rattle.tg_model.specs.Types as types
use Rattle.tg_model.specs.Typing.{HasType}
use Rattle.tg_model.specs.Value as model
use Rattle.tg_model.specs.Value.{Values}
use Rattle.tg_accept.specs.Declared.{Declared}
use Rattle.tg_accept.specs.Meaning.{number_of}
use Rattle.tg_accept.specs.Raw as raw
use Rattle.tg_accept.specs.Standing.{declared_in, value_meant, values_meant, IsAnswer, IsValueOf}
use Rattle.tg_grammar.specs.declared.terms.RawTerm.{RawTerm}
use Rattle.tg_grammar.specs.declared.terms.RawTerm.TheVariants as terms
use Rattle.tg_grammar.specs.declared.terms.RawBranch.{RawBranch}
use Rattle.tg_grammar.specs.declared.terms.Binder.{Binder}
use Rattle.tg_infer.specs.View.{binder, raw_term, raw_terms, raw_branches, bound_in, case_of, raw_term-Num, raw_term-Truth, raw_term-Use, raw_term-Free, raw_term-Bound, raw_term-Op, raw_term-If, raw_term-Let, raw_term-Case}
use Rattle.tg_infer.specs.declared.words.Words.{Words}
use Rattle.tg_infer.specs.Words.{AreWordsOf}
use Rattle.tg_term.specs.Values.{value, values, value-Nat, value-Bool, value-Con}
use Rattle.tg_term.specs.declared.values.Value.{Value}
use Rattle.tg_term.specs.declared.values.Value.TheVariants.{Con}
use Rattle.tg_term.proofs.PartLaws.{drop_at}

-- ---- one level

module _ (D : Declared) where
  pub no_let : (x : Binder) (ts : List RawTerm) → None ≡ value_meant D (raw_term (terms.Let x ts))
  no_let x ts = sym (ap (value_meant D) (raw_term-Let x ts) ∙ go (map raw_term ts))
    where
      go : (us : List raw.RawTerm) → value_meant D (bound_in (binder x) us) ≡ None
      go [] = refl
      go (t ∷ []) = refl
      go (t ∷ u ∷ []) = refl
      go (t ∷ u ∷ v ∷ us) = refl

  pub no_case : (ts : List RawTerm) (bs : List RawBranch) → None ≡ value_meant D (raw_term (terms.Case ts bs))
  no_case ts bs = sym (ap (value_meant D) (raw_term-Case ts bs) ∙ go (map raw_term ts))
    where
      go : (us : List raw.RawTerm) → value_meant D (case_of (raw_branches bs) us) ≡ None
      go [] = refl
      go (t ∷ []) = refl
      go (t ∷ u ∷ us) = refl

  pub no_word : (w : Words) (x : List ℕ) (ts : List RawTerm) → AreWordsOf w D → None ≡ number_of x w.constructors → None ≡ value_meant D (raw_term (terms.Use x ts))
  no_word w x ts h e =
      ap (option_and_then (λ c. option_map (model.made c) (values_meant D (raw_terms ts)))) (e ∙ ap (number_of x) h.constructors) ∙ sym (ap (value_meant D) (raw_term-Use x ts))

  of_word : (w : Words) (x : List ℕ) (ts : List RawTerm) (c : ℕ) → AreWordsOf w D → Some c ≡ number_of x w.constructors
      → option_map (model.made c) (values_meant D (raw_terms ts)) ≡ value_meant D (raw_term (terms.Use x ts))
  of_word w x ts c h e =
      ap (option_and_then (λ c. option_map (model.made c) (values_meant D (raw_terms ts)))) (e ∙ ap (number_of x) h.constructors) ∙ sym (ap (value_meant D) (raw_term-Use x ts))

  pub word_found : (w : Words) (x : List ℕ) (ts : List RawTerm) (c : ℕ) (vs : List Value) → AreWordsOf w D → Some c ≡ number_of x w.constructors
      → Some (values vs) ≡ values_meant D (raw_terms ts) → Some (value (Con c vs)) ≡ value_meant D (raw_term (terms.Use x ts))
  word_found w x ts c vs h e f = ap Some (value-Con c vs) ∙ ap (option_map (model.made c)) f ∙ of_word w x ts c h e

  pub no_arguments : (w : Words) (x : List ℕ) (ts : List RawTerm) (c : ℕ) → AreWordsOf w D → Some c ≡ number_of x w.constructors
      → None ≡ values_meant D (raw_terms ts) → None ≡ value_meant D (raw_term (terms.Use x ts))
  no_arguments w x ts c h e f = ap (option_map (model.made c)) f ∙ of_word w x ts c h e

-- ---- lists

-- values in front of others
abbrev pub before : List model.Value → Values → Values
before [] us = us
before (v ∷ vs) us = model.more v (before vs us)

before_none : (vs : List model.Value) → before vs model.none ≡ model.values vs
before_none [] = refl
before_none (v ∷ vs) = ap (model.more v) (before_none vs)

before_more : (vs : List model.Value) (u : model.Value) (us : Values) → before vs (model.more u us) ≡ before (vs ++ u ∷ []) us
before_more [] u us = refl
before_more (v ∷ vs) u us = ap (model.more v) (before_more vs u us)

after_more : (all : List model.Value) (u : model.Value) (o : Option Values) → option_map (before all) (option_map (model.more u) o) ≡ option_map (before (all ++ u ∷ [])) o
after_more all u None = refl
after_more all u (Some us) = ap Some (before_more all u us)

-- `all` are the values of the terms before the rest
pub record Stands (D : Declared) (ts : List RawTerm) (all : List Value) (rest : List RawTerm) : Type 0 where
  pub is : values_meant D (raw_terms ts) ≡ option_map (before (map value all)) (values_meant D (raw_terms rest))

pub stands_first : (D : Declared) (ts : List RawTerm) → Stands D ts [] ts
stands_first D ts = record { is = same (values_meant D (raw_terms ts)) }
  where
    same : (o : Option Values) → o ≡ option_map (before []) o
    same None = refl
    same (Some us) = refl

next_meant : (D : Declared) (ts : List RawTerm) (i : ℕ) (t : RawTerm) → slice_get ts i ≡ Some t
    → values_meant D (raw_terms (drop i ts)) ≡ option_and_then (λ v. option_map (model.more v) (values_meant D (raw_terms (drop (i + 1) ts)))) (value_meant D (raw_term t))
next_meant D ts i t e = ap (λ l. values_meant D (raw_terms l)) (drop_at ts i t e ∙ ap (λ n. t ∷ drop n ts) (let s : suc i ≡ i + 1 = omega arith in s))

pub stands_next : (D : Declared) (ts : List RawTerm) (all all' : List Value) (i : ℕ) (t : RawTerm) (v : Value) → slice_get ts i ≡ Some t
    → Stands D ts all (drop i ts) → Some (value v) ≡ value_meant D (raw_term t) → all' ≡ all ++ v ∷ [] → Stands D ts all' (drop (i + 1) ts)
stands_next D ts all all' i t v at h e more = record {
  is =
      h.is ∙ ap (option_map (before (map value all))) (next_meant D ts i t at)
      ∙ ap (λ o. option_map (before (map value all)) (option_and_then (λ w. option_map (model.more w) (values_meant D (raw_terms (drop (i + 1) ts)))) o)) (sym e)
      ∙ after_more (map value all) (value v) (values_meant D (raw_terms (drop (i + 1) ts)))
      ∙ ap (λ l. option_map (before l) (values_meant D (raw_terms (drop (i + 1) ts)))) (sym (ap (map value) more ∙ map-append value all (v ∷ [])));
}

pub stands_none : (D : Declared) (ts : List RawTerm) (all : List Value) (i : ℕ) (t : RawTerm) → slice_get ts i ≡ Some t
    → Stands D ts all (drop i ts) → None ≡ value_meant D (raw_term t) → None ≡ values_meant D (raw_terms ts)
stands_none D ts all i t at h e =
    sym (h.is ∙ ap (option_map (before (map value all))) (next_meant D ts i t at)
    ∙ ap (λ o. option_map (before (map value all)) (option_and_then (λ w. option_map (model.more w) (values_meant D (raw_terms (drop (i + 1) ts)))) o)) (sym e))

pub stands_last : (D : Declared) (ts : List RawTerm) (all : List Value) → Stands D ts all [] → Some (values all) ≡ values_meant D (raw_terms ts)
stands_last D ts all h = sym (h.is ∙ ap Some (before_none (map value all)))

pub ruleset meaning = (stands_first, stands_none, value-Nat, value-Bool, raw_term-Num, raw_term-Truth, raw_term-Free, raw_term-Bound, raw_term-Op, raw_term-If, no_let, no_case, no_word, word_found, no_arguments)

-- ---- answers

pub none_meant : (th : Theory) (t : types.Ty) (r : raw.RawTerm) → None ≡ value_meant (declared_in th) r → IsAnswer (IsValueOf th t r) None
none_meant th t r e = λ v h. let q : None ≡ Some v = e ∙ h.0 in cc q

pub of_other_type : (th : Theory) (t : types.Ty) (r : raw.RawTerm) (v : model.Value) (answer : Bool) → Some v ≡ value_meant (declared_in th) r
    → (answer ≡ true) ↔ HasType th v t → answer ≡ false → IsAnswer (IsValueOf th t r) None
of_other_type th t r v answer e h f = λ w k.
    let q : Some v ≡ Some w = e ∙ k.0 in
    let s : w ≡ v = cc q in
    let g : true ≡ false = sym (h.1 (subst (λ u. HasType th u t) s k.1)) ∙ f in cc g

pub of_the_type : (th : Theory) (t : types.Ty) (r : raw.RawTerm) (v : model.Value) (answer : Bool) → Some v ≡ value_meant (declared_in th) r
    → (answer ≡ true) ↔ HasType th v t → answer ≡ true → IsAnswer (IsValueOf th t r) (Some v)
of_the_type th t r v answer e h f = (sym e, h.0 f)

pub ruleset answering = (none_meant, of_other_type, of_the_type)
