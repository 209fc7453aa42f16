-- What stays of a list of clauses, clause by clause.
use Rattle.std.proofs.Common.{ℕ, ◌≡◌, ◌+◌, Bool, true, false, List, [], ◌∷◌, ◌++◌, map, take, drop, Some, refl, ap, sym, ◌∙◌, add-one}
use Rattle.std.specs.Prelude.{slice_get, if◌then◌else◌, option_map}
use Rattle.std.specs.declared.alloc.Global.{Global}
use Rattle.std.specs.declared.vec.Vec.{Vec}
use Rattle.std.proofs.lemmas.List.{map-append, append_assoc}
use Rattle.std.proofs.lemmas.Option.{slice_get-map}
use Rattle.tg_term.proofs.PartLaws.{drop_at}
use Rattle.tg_clause.specs.declared.literals.Literal.{Literal}
use Rattle.tg_clause.specs.declared.literals.Clause as declared
use Rattle.tg_clause.specs.Answers.{literals}
use Rattle.tg_clause.specs.Clauses.{Clause}
use Rattle.tg_clause.specs.Minimal as minimal
use Rattle.tg_clause.specs.Minimal.{minimal_from, minimised}
use Rattle.tg_clause.specs.Numbers.{rows_of, AreAllKnown, is_superfluous, row_items}
use Rattle.tg_clause.proofs.ListLaws.{take_next, append_none}
use Rattle.tg_clause.proofs.NumberLaws.{superfluous_same}

next_from : (all : List Clause) (i : ℕ) (c : Clause) (b : Bool) → slice_get all i ≡ Some c → minimal.is_superfluous all (take i all) c ≡ b
    → minimal_from all (take i all) (drop i all) ≡ (if b then [] else c ∷ []) ++ minimal_from all (take (i + 1) all) (drop (i + 1) all)
next_from all i c b at e =
    ap (minimal_from all (take i all)) (drop_at all i c at ∙ ap (λ n. c ∷ drop n all) (sym (add-one i)))
    ∙ (λ j. (if e j then [] else c ∷ []) ++ minimal_from all (sym (take_next all i c at) j) (drop (i + 1) all))

clause_at : (list : List declared.Clause) (i : ℕ) (c : declared.Clause) → slice_get list i ≡ Some c → slice_get (map literals list) i ≡ Some (literals c)
clause_at list i c at = slice_get-map literals list i ∙ ap (option_map literals) at

told : (table : List Literal) (rows : List (Vec ℕ Global)) (list : List declared.Clause) (i : ℕ) (c : declared.Clause) (b : Bool)
    → AreAllKnown table (map literals list) → map row_items rows ≡ rows_of table (map literals list) → slice_get list i ≡ Some c
    → is_superfluous (map row_items rows) i ≡ b → minimal.is_superfluous (map literals list) (take i (map literals list)) (literals c) ≡ b
told table rows list i c b known e at h =
    sym (superfluous_same table (map literals list) i (literals c) known (clause_at list i c at)) ∙ ap (λ rs. is_superfluous rs i) (sym e) ∙ h

pub clause_next : (table : List Literal) (rows : List (Vec ℕ Global)) (list : List declared.Clause) (i : ℕ) (c : declared.Clause) (vs ws : List Clause)
    → AreAllKnown table (map literals list) → map row_items rows ≡ rows_of table (map literals list) → slice_get list i ≡ Some c
    → ws ≡ vs ++ (if is_superfluous (map row_items rows) i then [] else literals c ∷ [])
    → vs ++ minimal_from (map literals list) (take i (map literals list)) (drop i (map literals list)) ≡ minimised (map literals list)
    → ws ++ minimal_from (map literals list) (take (i + 1) (map literals list)) (drop (i + 1) (map literals list)) ≡ minimised (map literals list)
clause_next table rows list i c vs ws known r at w before =
    let all = map literals list in
    let rest = minimal_from all (take (i + 1) all) (drop (i + 1) all) in
    let b = is_superfluous (map row_items rows) i in
    ap (λ l. l ++ rest) w ∙ append_assoc vs (if b then [] else literals c ∷ []) rest
    ∙ ap (λ l. vs ++ l) (sym (next_from all i (literals c) b (clause_at list i c at) (told table rows list i c b known r at refl)))
    ∙ before

pub all_done : (list : List declared.Clause) (vs : List declared.Clause) (i : ℕ) → drop i (map literals list) ≡ []
    → map literals vs ++ minimal_from (map literals list) (take i (map literals list)) (drop i (map literals list)) ≡ minimised (map literals list)
    → map literals vs ≡ minimised (map literals list)
all_done list vs i e h =
    append_none (map literals vs) ∙ ap (λ l. map literals vs ++ minimal_from (map literals list) (take i (map literals list)) l) (sym e) ∙ h

pub ruleset staying = (clause_next, all_done)

pub goes : (vs : List declared.Clause) (d : Clause) (b : Bool) → b ≡ true → map literals vs ≡ map literals vs ++ (if b then [] else d ∷ [])
goes vs d b e = append_none (map literals vs) ∙ ap (λ x. map literals vs ++ (if x then [] else d ∷ [])) (sym e)

pub stays : (vs ws : List declared.Clause) (c : declared.Clause) (d : Clause) (b : Bool) → b ≡ false → literals c ≡ d → ws ≡ vs ++ c ∷ []
    → map literals ws ≡ map literals vs ++ (if b then [] else d ∷ [])
stays vs ws c d b e same w =
    ap (map literals) w ∙ map-append literals vs (c ∷ []) ∙ ap (λ x. map literals vs ++ x ∷ []) same
    ∙ ap (λ x. map literals vs ++ (if x then [] else d ∷ [])) (sym e)

pub ruleset one_needed = (goes, stays)
