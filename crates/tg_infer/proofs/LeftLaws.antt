-- The variables of a left side.
use Rattle.std.proofs.Common.{ℕ, zero, suc, ◌≡◌, ◌+◌, List, [], ◌∷◌, ◌++◌, length, reverse, drop, map, Option, Some, None, refl, sym, ◌∙◌, ap, subst, arith, append_assoc, if◌then◌else◌}
use Rattle.std.specs.Prelude.{slice_get}
use Rattle.std.specs.Str.{bytes_eq}
use Rattle.std.proofs.lemmas.List.{reverse-append}
use Rattle.tg_accept.specs.Equations as model
use Rattle.tg_accept.specs.Equations.{count_variables, left_from, left_variables, numbered_from}
use Rattle.tg_accept.specs.Meaning.{variable_named}
use Rattle.tg_equations.specs.declared.equations.Pattern.{Pattern}
use Rattle.tg_equations.specs.declared.equations.Pattern.TheVariants.{Variable, Matched}
use Rattle.tg_equations.specs.View.{pattern, patterns}
use Rattle.tg_typing.specs.declared.resolved.Head.{Head}
use Rattle.tg_infer.specs.Scopes.{AreSameVariables}
use Rattle.tg_term.proofs.PartLaws.{drop_at}

abbrev pub Variables : Type 0
Variables = List (List ℕ × ℕ)

-- the same variables stand behind the same ones
behind : (ls vs ws : Variables) → AreSameVariables vs ws → AreSameVariables (ls ++ vs) (ls ++ ws)
behind [] vs ws h = h
behind (l ∷ ls) vs ws h = record { is = λ x. ap (λ o. if bytes_eq x l.0 then Some l.1 else o) ((behind ls vs ws h).is x) }

same_on : (us vs ws : Variables) → AreSameVariables us vs → AreSameVariables vs ws → AreSameVariables us ws
same_on us vs ws h k = record { is = λ x. h.is x ∙ k.is x }

-- one more in front
turned : (x : List ℕ) (n : ℕ) (ls vs : Variables) → reverse ((x, n) ∷ ls) ++ vs ≡ reverse ls ++ (x, n) ∷ vs
turned x n ls vs = ap (λ l. l ++ vs) (reverse-append ((x, n) ∷ []) ls) ∙ append_assoc (reverse ls) ((x, n) ∷ []) vs

-- the variables that are left stand before those that are added
pub record Adding (all rest now : Variables) : Type 0 where
  pub is : AreSameVariables (reverse rest ++ now) all

pub none_added : (ls now : Variables) → Adding (reverse ls ++ now) ls now
none_added ls now = record { is = (let s : AreSameVariables (reverse ls ++ now) (reverse ls ++ now) = record { is = λ x. refl } in s) }

one_added : (all ls now new : Variables) (x : List ℕ) (n : ℕ) → Adding all ((x, n) ∷ ls) now → AreSameVariables new ((x, n) ∷ now) → Adding all ls new
one_added all ls now new x n h e = record {
  is = same_on (reverse ls ++ new) (reverse ls ++ (x, n) ∷ now) all (behind (reverse ls) new ((x, n) ∷ now) e)
      (subst (λ l. AreSameVariables l all) (turned x n ls now) h.is);
}

pub all_added : (all now : Variables) → Adding all [] now → AreSameVariables now all
all_added all now h = h.is

-- ---- names with numbers that follow

pub record IsAdding (first : ℕ) (xs : List (List ℕ)) (old now : Variables) (rest : List (List ℕ)) (next : ℕ) : Type 0 where
  pub adding : Adding (reverse (numbered_from first xs) ++ old) (numbered_from next rest) now
  pub count : next + length rest ≡ first + length xs

pub begin_names : (first : ℕ) (xs : List (List ℕ)) (old : Variables) → IsAdding first xs old old xs first
begin_names first xs old = record { adding = none_added (numbered_from first xs) old; count = refl }

pub next_name : (first : ℕ) (xs : List (List ℕ)) (old now new : Variables) (next i : ℕ) (x : List ℕ) → slice_get xs i ≡ Some x
    → IsAdding first xs old now (drop i xs) next → AreSameVariables new ((x, next) ∷ now) → IsAdding first xs old new (drop (i + 1) xs) (next + 1)
next_name first xs old now new next i x at h e =
    let d : drop i xs ≡ x ∷ drop (i + 1) xs = drop_at xs i x at ∙ ap (λ n. x ∷ drop n xs) (let s : suc i ≡ i + 1 = omega arith in s) in
    let s : suc next ≡ next + 1 = omega arith in
    record {
      adding =
          subst (λ m. Adding (reverse (numbered_from first xs) ++ old) (numbered_from m (drop (i + 1) xs)) new) s
          (one_added (reverse (numbered_from first xs) ++ old) (numbered_from (suc next) (drop (i + 1) xs)) now new x next
          (subst (λ l. Adding (reverse (numbered_from first xs) ++ old) (numbered_from next l) now) d h.adding) e);
      count = (let l = ap length d in let c = h.count in omega (arith, l, c));
    }

pub end_names : (first : ℕ) (xs : List (List ℕ)) (old now : Variables) (next : ℕ) → IsAdding first xs old now [] next
    → (next ≡ first + length xs) × AreSameVariables now (reverse (numbered_from first xs) ++ old)
end_names first xs old now next h = ((let c = h.count in omega (arith, c)), h.adding.is)

-- ---- patterns

-- several more in front
several_added : (all : Variables) (m : ℕ) (xs : List (List ℕ)) (ls now new : Variables) → Adding all (numbered_from m xs ++ ls) now
    → AreSameVariables new (reverse (numbered_from m xs) ++ now) → Adding all ls new
several_added all m xs ls now new h e = record {
  is = same_on (reverse ls ++ new) (reverse ls ++ (reverse (numbered_from m xs) ++ now)) all (behind (reverse ls) new (reverse (numbered_from m xs) ++ now) e)
      (subst (λ l. AreSameVariables l all) (ap (λ l. l ++ now) (reverse-append (numbered_from m xs) ls) ∙ append_assoc (reverse ls) (reverse (numbered_from m xs)) now) h.is);
}

pub record IsLeft (ps : List Pattern) (now : Variables) (rest : List Pattern) (next inner : ℕ) : Type 0 where
  pub adding : Adding (left_variables (patterns ps)) (left_from next inner (patterns rest)) now

pub begin_left : (ps : List Pattern) (inner : ℕ) → inner ≡ count_variables (patterns ps) + 1 → IsLeft ps [] ps 1 inner
begin_left ps inner e = record {
  adding =
      subst (λ n. Adding (left_variables (patterns ps)) (left_from 1 n (patterns ps)) []) (let s : suc (count_variables (patterns ps)) ≡ inner = omega (arith, e) in s)
      (subst (λ l. Adding l (left_from 1 (suc (count_variables (patterns ps))) (patterns ps)) []) (whole (left_variables (patterns ps)))
      (none_added (left_from 1 (suc (count_variables (patterns ps))) (patterns ps)) []));
}
  where
    whole : (ls : Variables) → ls ++ [] ≡ ls
    whole [] = refl
    whole (l ∷ ls) = ap (λ k. l ∷ k) (whole ls)

rest_at : (ps : List Pattern) (i : ℕ) (p : Pattern) → slice_get ps i ≡ Some p → drop i ps ≡ p ∷ drop (i + 1) ps
rest_at ps i p e = drop_at ps i p e ∙ ap (λ n. p ∷ drop n ps) (let s : suc i ≡ i + 1 = omega arith in s)

pub left_variable : (ps : List Pattern) (now new : Variables) (next inner i : ℕ) (x : List ℕ) → slice_get ps i ≡ Some (Variable x)
    → IsLeft ps now (drop i ps) next inner → AreSameVariables new ((x, next) ∷ now) → IsLeft ps new (drop (i + 1) ps) (next + 1) inner
left_variable ps now new next inner i x at h e = record {
  adding =
      subst (λ n. Adding (left_variables (patterns ps)) (left_from n inner (patterns (drop (i + 1) ps))) new) (let s : suc next ≡ next + 1 = omega arith in s)
      (one_added (left_variables (patterns ps)) (left_from (suc next) inner (patterns (drop (i + 1) ps))) now new x next
      (subst (λ l. Adding (left_variables (patterns ps)) (left_from next inner (patterns l)) now) (rest_at ps i (Variable x) at) h.adding) e);
}

pub left_matched : (ps : List Pattern) (now new : Variables) (next inner after i : ℕ) (hd : Head) (xs : List (List ℕ)) → slice_get ps i ≡ Some (Matched hd xs)
    → IsLeft ps now (drop i ps) next inner → AreSameVariables new (reverse (numbered_from inner xs) ++ now)
    → after ≡ inner + length xs → IsLeft ps new (drop (i + 1) ps) next after
left_matched ps now new next inner after i hd xs at h e f = record {
  adding =
      subst (λ n. Adding (left_variables (patterns ps)) (left_from next n (patterns (drop (i + 1) ps))) new) (sym f)
      (several_added (left_variables (patterns ps)) inner xs (left_from next (inner + length xs) (patterns (drop (i + 1) ps))) now new
      (subst (λ l. Adding (left_variables (patterns ps)) l now)
      (ap (λ l. left_from next inner (patterns l)) (rest_at ps i (Matched hd xs) at))
      h.adding)
      e);
}

pub end_left : (ps : List Pattern) (now : Variables) (next inner : ℕ) → IsLeft ps now [] next inner → AreSameVariables now (left_variables (patterns ps))
end_left ps now next inner h = h.adding.is

pub ruleset lefts = (begin_names, begin_left)
