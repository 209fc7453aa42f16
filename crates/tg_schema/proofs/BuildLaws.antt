-- Equations joined from the last, and terms that are put in.
use Rattle.std.proofs.Common.{ℕ, zero, suc, ◌≡◌, ◌<◌, ◌-◌, true, List, [], ◌∷◌, length, drop, Option, Some, None, refl, ap, sym, ◌∙◌, arith, subst}
use Rattle.std.specs.Prelude.{slice_get, unwrap_or}
use Rattle.tg_model.specs.Tree.{Tree, truth, op, two, conjunction}
use Rattle.tg_model.specs.Walk.{instantiated, substituted}
use Rattle.tg_rows.specs.Parts.{and_then}
use Rattle.tg_rows.specs.Rows.{equal_parts, equation}
use Rattle.tg_term.specs.Substituting.{IsInstantiated, IsSubstituted}
use Rattle.tg_schema.proofs.EquationLaws.{other_lengths, no_parts}

pub instantiated_is : (us : List Tree) (t u : Tree) → IsInstantiated us t u → u ≡ instantiated us t
instantiated_is us t u k = k.is

pub substituted_is : (us : List Tree) (t u : Tree) → IsSubstituted us t u → u ≡ substituted us t
substituted_is us t u k = k.is

pub ruleset walked = (instantiated_is, substituted_is)

true_otherwise : (o : Option Tree) → None ≡ o → truth true ≡ unwrap_or o (truth true)
true_otherwise o e = ap (λ p. unwrap_or p (truth true)) e

pub true_other : (ts us : List Tree) → ¬ (length ts ≡ length us) → truth true ≡ unwrap_or (equal_parts ts us) (truth true)
true_other ts us h = true_otherwise _ (other_lengths ts us h)

pub true_none : (ts us : List Tree) → length ts ≡ 0 → truth true ≡ unwrap_or (equal_parts ts us) (truth true)
true_none ts us e = true_otherwise _ (no_parts ts us e)

-- the last equation, and one more in front
pub joined_last : (ts us : List Tree) (k : ℕ) (a b : Tree) → length ts ≡ length us → ¬ (length ts ≡ 0) → k ≡ length ts - 1 → slice_get ts k ≡ Some a → slice_get us k ≡ Some b
    → Some (equation a b) ≡ equal_parts (drop k ts) (drop k us)
joined_last [] us k a b e h i p q = absurd (h refl)
joined_last (t ∷ ts) [] k a b e h i p q = absurd (omega (arith, e))
joined_last (t ∷ []) (u ∷ []) zero a b e h i p q =
    let r : t ≡ a = cc p in let s : u ≡ b = cc q in λ j. Some (equation (sym r j) (sym s j))
joined_last (t ∷ []) (u ∷ []) (suc k) a b e h i p q = absurd (omega (arith, i))
joined_last (t ∷ []) (u ∷ w ∷ us) k a b e h i p q = absurd (omega (arith, e))
joined_last (t ∷ v ∷ ts) (u ∷ us) zero a b e h i p q = absurd (omega (arith, i))
joined_last (t ∷ v ∷ ts) (u ∷ us) (suc k) a b e h i p q =
    joined_last (v ∷ ts) us k a b (omega (arith, e)) (λ z. absurd (omega (arith, z))) (omega (arith, i)) p q

more_joined : (t u x : Tree) (ts us : List Tree) → Some x ≡ equal_parts ts us → Some (op conjunction (two (equation t u) x)) ≡ equal_parts (t ∷ ts) (u ∷ us)
more_joined t u x [] us e = cc e
more_joined t u x (v ∷ []) [] e = cc e
more_joined t u x (v ∷ w ∷ ts) [] e = cc e
more_joined t u x (v ∷ ts) (w ∷ us) e = ap (λ o. and_then o (λ y. Some (op conjunction (two (equation t u) y)))) e

pub joined_more : (ts us : List Tree) (k : ℕ) (a b x : Tree) → Some x ≡ equal_parts (drop (suc k) ts) (drop (suc k) us) → slice_get ts k ≡ Some a → slice_get us k ≡ Some b
    → Some (op conjunction (two (equation a b) x)) ≡ equal_parts (drop k ts) (drop k us)
joined_more [] us k a b x e p q = cc p
joined_more (t ∷ ts) [] k a b x e p q = cc q
joined_more (t ∷ ts) (u ∷ us) zero a b x e p q =
    let r : t ≡ a = cc p in let s : u ≡ b = cc q in
    (λ j. Some (op conjunction (two (equation (sym r j) (sym s j)) x))) ∙ more_joined t u x ts us e
joined_more (t ∷ ts) (u ∷ us) (suc k) a b x e p q = joined_more ts us k a b x e p q

pub joined_before : (ts us : List Tree) (m : ℕ) (a b x : Tree) → Some x ≡ equal_parts (drop m ts) (drop m us) → 0 < m → slice_get ts (m - 1) ≡ Some a → slice_get us (m - 1) ≡ Some b
    → Some (op conjunction (two (equation a b) x)) ≡ equal_parts (drop (m - 1) ts) (drop (m - 1) us)
joined_before ts us zero a b x e h p q = absurd (omega (arith, h))
joined_before ts us (suc k) a b x e h p q =
    let s : suc k - 1 ≡ k = omega arith in
    subst (λ n. Some (op conjunction (two (equation a b) x)) ≡ equal_parts (drop n ts) (drop n us)) (sym s)
    (joined_more ts us k a b x e (subst (λ n. slice_get ts n ≡ Some a) s p) (subst (λ n. slice_get us n ≡ Some b) s q))

pub joined_all : (ts us : List Tree) (m : ℕ) (x : Tree) → Some x ≡ equal_parts (drop m ts) (drop m us) → ¬ (0 < m) → x ≡ unwrap_or (equal_parts ts us) (truth true)
joined_all ts us zero x e h = ap (λ o. unwrap_or o (truth true)) e
joined_all ts us (suc k) x e h = absurd (h (omega arith))

pub ruleset equations = (true_other, true_none, joined_last, joined_before, joined_all)
