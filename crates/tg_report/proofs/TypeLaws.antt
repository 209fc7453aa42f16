-- Types of a list, written one behind another.
use Rattle.std.proofs.Common.{◌≡◌, ◌<◌, ◌≢◌, ℕ, ◌+◌, List, [], ◌∷◌, ◌++◌, length, drop, get_or, true, false, refl, sym, ap, ◌∙◌, arith}
use Rattle.std.specs.Prelude.{codes, ◌==◌}
use Rattle.std.proofs.lemmas.Bool.{eqb-true}
use Rattle.tg_model.specs.Theory.{Theory}
use Rattle.tg_types.specs.declared.types.Ty.{Ty}
use Rattle.tg_types.specs.Types.{ty, types, ty_laws, ty-Nat, ty-Bool, ty-Param, ty-Meta, ty-App}
use Rattle.tg_grammar.specs.Kinds.{close_paren}
use Rattle.tg_render.specs.Render.{put, written}
use Rattle.tg_render.specs.Tokens.{mark, name, continued}
use Rattle.tg_render.proofs.Writing.{written-append}
use Rattle.tg_report.specs.Words.{comma}
use Rattle.tg_report.specs.Names.{datatype_name}
use Rattle.tg_report.specs.TypeTexts.{ty_tokens, tys_tokens, arguments, type_application}
use Rattle.tg_report.proofs.Lists.{drop_next}

pub more_next : (th : Theory) (out mid next whole : List ℕ) (ts : List Ty) (i : ℕ) (t : Ty) → i < length ts → t ≡ get_or ts i t
    → written out (continued comma (tys_tokens th (types (drop i ts)))) ≡ whole → mid ≡ put out (codes ",")
    → next ≡ written mid (ty_tokens th (ty t)) → written next (continued comma (tys_tokens th (types (drop (i + 1) ts)))) ≡ whole
more_next th out mid next whole ts i t less e so_far first second =
    let rest = continued comma (tys_tokens th (types (drop (i + 1) ts))) in
    ap (λ o. written o rest) (second ∙ ap (λ o. written o (ty_tokens th (ty t))) first)
    ∙ sym (written-append (put out (codes ",")) (ty_tokens th (ty t)) rest)
    ∙ sym (ap (λ us. written out (continued comma (tys_tokens th (types us)))) (drop_next ts i t less e)) ∙ so_far

pub bracketed : (th : Theory) (head out first second third next : List ℕ) (d : ℕ) (ts : List Ty) → (length ts == 0) ≡ false
    → head ≡ datatype_name th d → first ≡ put out (codes "(") → second ≡ written first (arguments (tys_tokens th (types ts))) → third ≡ put second head
    → next ≡ put third (codes ")") → next ≡ written out (type_application (name (datatype_name th d)) (tys_tokens th (types ts)))
bracketed th head out first second third next d [] some n a b c e = absurd cc
bracketed th head out first second third next d (t ∷ ts) some n a b c e =
    let all = arguments (tys_tokens th (types (t ∷ ts))) in
    let start = put out (codes "(") in
    let end = name (datatype_name th d) ∷ [] in
    e ∙ ap (λ o. put o (codes ")")) (c ∙ ap (put second) n ∙ ap (λ o. put o (datatype_name th d)) (b ∙ ap (λ o. written o all) a))
    ∙ sym (written-append start (all ++ end) (mark close_paren (codes ")") ∷ [])
    ∙ ap (λ o. put o (codes ")")) (written-append start all end))

pub alone : (th : Theory) (d : ℕ) (ts : List Ty) → (length ts == 0) ≡ true
    → name (datatype_name th d) ∷ [] ≡ type_application (name (datatype_name th d)) (tys_tokens th (types ts))
alone th d [] none = refl
alone th d (t ∷ ts) none = absurd (omega (arith, eqb-true (length (t ∷ ts)) 0 none))

pub one_argument : (th : Theory) (ts : List Ty) (t : Ty) → length ts ≡ 1 → t ≡ get_or ts 0 t
    → ty_tokens th (ty t) ≡ arguments (tys_tokens th (types ts))
one_argument th [] t n e = absurd (omega (arith, n))
one_argument th (u ∷ []) t n e = ap (λ x. ty_tokens th (ty x)) e
one_argument th (u ∷ v ∷ ts) t n e = absurd (omega (arith, n))

pub several : (th : Theory) (out first second third next : List ℕ) (ts : List Ty) (t : Ty) → 0 < length ts → length ts ≢ 1 → t ≡ get_or ts 0 t
    → first ≡ put out (codes "(") → second ≡ written first (ty_tokens th (ty t))
    → third ≡ written second (continued comma (tys_tokens th (types (drop 1 ts)))) → next ≡ put third (codes ")")
    → next ≡ written out (arguments (tys_tokens th (types ts)))
several th out first second third next [] t some n e a b c d = absurd (omega (arith, some))
several th out first second third next (u ∷ []) t some n e a b c d = absurd (n refl)
several th out first second third next (u ∷ v ∷ ts) t some n e a b c d =
    let rest = continued comma (tys_tokens th (types (v ∷ ts))) in
    let start = put out (codes "(") in
    d ∙ ap (λ o. put o (codes ")")) (c ∙ ap (λ o. written o rest) (b ∙ ap (λ x. written first (ty_tokens th (ty x))) e ∙ ap (λ o. written o
    (ty_tokens th (ty u))) a))
    ∙ sym (written-append start (ty_tokens th (ty u) ++ rest) (mark close_paren (codes ")") ∷ [])
    ∙ ap (λ o. put o (codes ")")) (written-append start (ty_tokens th (ty u)) rest))

pub ruleset writing = (ty-Nat, ty-Bool, ty-Param, ty-Meta, ty-App, more_next, bracketed, alone, one_argument, several)
