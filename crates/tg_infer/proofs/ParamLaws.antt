-- Type variables are found at their places.
use Rattle.std.proofs.Common.{ℕ, suc, ◌≡◌, ◌+◌, ◌<◌, Bool, true, false, List, [], ◌∷◌, ◌++◌, length, Option, Some, None, refl, sym, ◌∙◌, ap, arith, if◌then◌else◌}
use Rattle.std.specs.Prelude.{option_map}
use Rattle.std.specs.Str.{bytes_eq}
use Rattle.std.proofs.lemmas.Slice.Eq.{bytes_eq-Decides}
use Rattle.indexmap.specs.IndexMap.{get}
use Rattle.tg_accept.specs.Meaning.{number_of}
use Rattle.tg_infer.specs.declared.params.Params.TheInside.{Inside}
use Rattle.tg_infer.specs.Params.{IsPlaced}
use Rattle.tg_infer.proofs.BinderLaws.{same_flip}

abbrev pub Names : Type 0
Names = List (List ℕ)

pub found_at : (p : Inside) (x : List ℕ) → IsPlaced p → get bytes_eq p.numbers x ≡ number_of x p.names.items
found_at p x h = h.at x

pub few : (p : Inside) → IsPlaced p → length p.names.items < 4294967296
few p h = h.few

-- at the end another name changes nothing
other_end : (y x : List ℕ) (zs : Names) → ¬ (bytes_eq y x ≡ true) → number_of y (zs ++ x ∷ []) ≡ number_of y zs
other_end y x [] h = no (bytes_eq y x) refl
  where
    no : (b : Bool) → bytes_eq y x ≡ b → (if b then Some 1 else option_map suc (number_of y [])) ≡ number_of y []
    no true f = absurd (h f)
    no false f = refl
other_end y x (z ∷ zs) h = ap (λ o. if bytes_eq y z then Some 1 else option_map suc o) (other_end y x zs h)

-- a name that is there already stays where it is
again : (x y : List ℕ) (xs : Names) (n : ℕ) → number_of x xs ≡ Some n → number_of y (xs ++ x ∷ []) ≡ number_of y xs
again x y [] n e = cc e
again x y (z ∷ zs) n e = go (bytes_eq x z) refl (bytes_eq y z) refl (number_of x zs) refl (λ m h. again x y zs m h)
  where
    go : (b : Bool) → bytes_eq x z ≡ b → (c : Bool) → bytes_eq y z ≡ c → (o : Option ℕ) → number_of x zs ≡ o
        → ((m : ℕ) → number_of x zs ≡ Some m → number_of y (zs ++ x ∷ []) ≡ number_of y zs)
        → (if c then Some 1 else option_map suc (number_of y (zs ++ x ∷ []))) ≡ (if c then Some 1 else option_map suc (number_of y zs))
    go b f true g o k r = refl
    go true f false g o k r =
        ap (option_map suc) (other_end y x zs (λ h. let q : false ≡ true = sym g ∙ ap (bytes_eq y) (sym ((bytes_eq-Decides x z).0 f)) ∙ h in cc q))
    go false f false g (Some m) k r = ap (option_map suc) (r m k)
    go false f false g None k r = let q : None ≡ Some n = sym (ap (λ b. if b then Some 1 else option_map suc (number_of x zs)) f ∙ ap (option_map suc) k) ∙ e in cc q

-- a new name stands at the end
fresh : (x y : List ℕ) (xs : Names) → number_of x xs ≡ None → number_of y (xs ++ x ∷ []) ≡ (if bytes_eq x y then Some (length xs + 1) else number_of y xs)
fresh x y [] e = ap (λ b. if b then Some 1 else number_of y []) (same_flip y x)
fresh x y (z ∷ zs) e = go (bytes_eq x z) refl (λ h. fresh x y zs h)
  where
    none : (o : Option ℕ) → option_map suc o ≡ None → o ≡ None
    none None k = refl
    none (Some n) k = cc k

    turn : (c d : Bool) → bytes_eq y z ≡ c → bytes_eq x y ≡ d → bytes_eq x z ≡ false
        → (if c then Some 1 else option_map suc (if d then Some (length zs + 1) else number_of y zs))
        ≡ (if d then Some (suc (length zs) + 1) else (if c then Some 1 else option_map suc (number_of y zs)))
    turn true true g h f = let q : true ≡ false = sym g ∙ ap (λ w. bytes_eq w z) (sym ((bytes_eq-Decides x y).0 h)) ∙ f in cc q
    turn true false g h f = refl
    turn false true g h f = ap Some (let s : suc (length zs + 1) ≡ suc (length zs) + 1 = omega arith in s)
    turn false false g h f = refl

    go : (b : Bool) → bytes_eq x z ≡ b
        → (number_of x zs ≡ None → number_of y (zs ++ x ∷ []) ≡ (if bytes_eq x y then Some (length zs + 1) else number_of y zs))
        → (if bytes_eq y z then Some 1 else option_map suc (number_of y (zs ++ x ∷ [])))
        ≡ (if bytes_eq x y then Some (suc (length zs) + 1) else (if bytes_eq y z then Some 1 else option_map suc (number_of y zs)))
    go true f r = let q : Some 1 ≡ None = sym (ap (λ b. if b then Some 1 else option_map suc (number_of x zs)) f) ∙ e in cc q
    go false f r =
        ap (λ o. if bytes_eq y z then Some 1 else option_map suc o) (r (none (number_of x zs) (sym (ap (λ b. if b then Some 1 else option_map suc (number_of x zs)) f) ∙ e)))
        ∙ turn (bytes_eq y z) (bytes_eq x y) refl refl f

longer : {A : Type 0} (xs : List A) (x : A) → length (xs ++ x ∷ []) ≡ length xs + 1
longer [] x = refl
longer (y ∷ ys) x = let k = longer ys x in omega (arith, k)

pub placed_again : (old new : Inside) (x : List ℕ) (n : ℕ) → IsPlaced old → Some n ≡ number_of x old.names.items → new.names.items ≡ old.names.items ++ x ∷ []
    → new.numbers ≡ old.numbers → length old.names.items + 1 < 4294967296 → IsPlaced new
placed_again old new x n h is e same few = record {
  at = λ y. ap (λ m. get bytes_eq m y) same ∙ h.at y ∙ sym (again x y old.names.items n (sym is)) ∙ ap (number_of y) (sym e);
  few = (let l = ap length e in let k = longer old.names.items x in omega (arith, l, k, few));
}

pub placed_new : (old new : Inside) (x : List ℕ) (n : ℕ) → IsPlaced old → None ≡ number_of x old.names.items → new.names.items ≡ old.names.items ++ x ∷ []
    → ((y : List ℕ) → get bytes_eq new.numbers y ≡ (if bytes_eq x y then Some n else get bytes_eq old.numbers y)) → n ≡ length old.names.items + 1 → n < 4294967296
    → IsPlaced new
placed_new old new x n h is e at f few = record {
  at = λ y.
      at y ∙ (λ i. if bytes_eq x y then Some (f i) else h.at y i) ∙ sym (fresh x y old.names.items (sym is)) ∙ ap (number_of y) (sym e);
  few = (let l = ap length e in let k = longer old.names.items x in omega (arith, l, k, few, f));
}

pub ruleset placing = (found_at, few, placed_again, placed_new)
