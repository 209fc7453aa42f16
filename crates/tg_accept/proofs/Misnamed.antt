-- A term has no meaning exactly where its names are wrong.
use Rattle.std.proofs.Common.{ℕ, suc, ◌≡◌, ◌⊎◌, Bool, true, false, not, nat_eq, List, [], ◌∷◌, ◌++◌, map, reverse, length, Option, Some, None, refl, sym, ◌∙◌, ap, subst, inl, inr, if◌then◌else◌}
use Rattle.std.specs.Prelude.{◌&&◌, ◌↔◌, option_map, option_and_then}
use Rattle.std.specs.Option.{option_map_or}
use Rattle.std.specs.Bool.{Decides}
use Rattle.std.specs.Str.{bytes_eq}
use Rattle.std.proofs.lemmas.Slice.Eq.{bytes_eq-Decides}
use Rattle.std.proofs.lemmas.Bool.Decides.{Decides-eqb}
use Rattle.tg_model.specs.Accepted.{IsAmong, constructor_names}
use Rattle.tg_model.proofs.Booleans.{or_cases}
use Rattle.tg_accept.specs.Declared.{Declared}
use Rattle.tg_accept.specs.Kept.{names_of_values, name_of_program}
use Rattle.tg_accept.specs.Faults.{is_taken}
use Rattle.tg_accept.specs.Resolved as resolved
use Rattle.tg_accept.specs.Resolved.{Head, of, Resolved, Resolveds, Branches}
use Rattle.tg_accept.specs.Raw as raw
use Rattle.tg_accept.specs.Raw.{Name, Binder, level, RawHead, zero_word, successor_word, constructor_word, RawTerm, RawTerms, RawBranches}
use Rattle.tg_accept.specs.Meaning.{number_of, names_of_functions, constructor_named, constructor, function, the_program, word_named, head_meant, Scope, taken_names, same_binder, place_of, variable_named, may_bind, may_bind_all, name_of, variable_on, word_on, declared_on, word_meant, datatype_of_first, resolve, resolve_all, resolve_branches}
use Rattle.tg_accept.specs.Misnaming.{IsUnknown, IsBadBinder, AreBadBinders, IsNoConstructor, Misnamed, AllMisnamed, BranchesMisnamed, TermsAreMisnamed}
use Rattle.tg_accept.proofs.Names.{taken_if, among_left, among_right, among_either}

-- ---- what is None exactly where something holds

pub never : {A : Type 0} (x : A) → (Some x ≡ None) ↔ ⊥
never x = (λ e. cc e, λ h. absurd h)

pub map_none : {A B : Type 0} (P : Type 0) (f : A → B) (o : Option A) → (o ≡ None) ↔ P → (option_map f o ≡ None) ↔ P
map_none P f None h = (λ e. h.0 refl, λ p. refl)
map_none P f (Some x) h = (λ e. cc e, λ p. let q = h.1 p in cc q)

pub then_none : {A B : Type 0} (P Q : Type 0) (f : A → Option B) (o : Option A) → (o ≡ None) ↔ P → ((x : A) → o ≡ Some x → (f x ≡ None) ↔ Q)
    → (option_and_then f o ≡ None) ↔ (P ⊎ Q)
then_none P Q f None h k = (λ e. inl (h.0 refl), λ p. refl)
then_none P Q f (Some x) h k = (λ e. inr ((k x refl).0 e), λ p. elim p [ inl a ↦ (let q = h.1 a in cc q) | inr b ↦ (k x refl).1 b ])

pub if_none : {A : Type 0} (P Q : Type 0) (b : Bool) (o : Option A) → (b ≡ false) ↔ P → (o ≡ None) ↔ Q → ((if b then o else None) ≡ None) ↔ (P ⊎ Q)
if_none P Q true o h k = (λ e. inr (k.0 e), λ p. elim p [ inl a ↦ (let q = h.1 a in cc q) | inr b ↦ k.1 b ])
if_none P Q false o h k = (λ e. inl (h.0 refl), λ p. refl)

pub none_or : {A : Type 0} (P Q : Type 0) (b : Bool) (o : Option A) → (b ≡ true) ↔ P → (o ≡ None) ↔ Q → ((if b then None else o) ≡ None) ↔ (P ⊎ Q)
none_or P Q true o h k = (λ e. inl (h.0 refl), λ p. refl)
none_or P Q false o h k = (λ e. inr (k.0 e), λ p. elim p [ inl a ↦ (let q = h.1 a in cc q) | inr b ↦ k.1 b ])

or_none : {A B : Type 0} (g : A → B) (o : Option A) (d : Option B) → option_map_or (λ x. Some (g x)) o d ≡ None → (o ≡ None) × (d ≡ None)
or_none g None d e = (refl, e)
or_none g (Some x) d e = cc e

none_both : {A B : Type 0} (g : A → B) (o : Option A) (d : Option B) → o ≡ None → d ≡ None → option_map_or (λ x. Some (g x)) o d ≡ None
none_both g None d e f = f
none_both g (Some x) d e f = cc e

pub and_false : (P Q : Type 0) (a b : Bool) → (a ≡ false) ↔ P → (b ≡ false) ↔ Q → ((a && b) ≡ false) ↔ (P ⊎ Q)
and_false P Q true b h k = (λ e. inr (k.0 e), λ p. elim p [ inl x ↦ (let q = h.1 x in cc q) | inr y ↦ k.1 y ])
and_false P Q false b h k = (λ e. inl (h.0 refl), λ p. refl)

-- a test that decides something
pub is_false : (P : Type 0) (b : Bool) → Decides b P → (b ≡ false) ↔ (¬ P)
is_false P true d = (λ e. cc e, λ n. absurd (n (d.0 refl)))
is_false P false d = (λ e p. (let q = d.1 p in cc q), λ n. refl)

not_is_false : (P : Type 0) (b : Bool) → Decides b P → (not b ≡ false) ↔ P
not_is_false P true d = (λ e. d.0 refl, λ p. refl)
not_is_false P false d = (λ e. cc e, λ p. let q = d.1 p in cc q)

-- ---- names in lists

among_taken : (x : Name) (ys : List Name) → is_taken x ys ≡ true → IsAmong x ys
among_taken x [] e = cc e
among_taken x (y ∷ ys) e = elim (or_cases (bytes_eq x y) (is_taken x ys) e) [ inl q ↦ inl ((bytes_eq-Decides x y).0 q) | inr h ↦ inr (among_taken x ys h) ]

pub taken_decides : (x : Name) (ys : List Name) → Decides (is_taken x ys) (IsAmong x ys)
taken_decides x ys = (among_taken x ys, taken_if x ys)

-- the first item that a test finds, as a number
module _ {A : Type 0} (same : A → A → Bool) (decides : (x y : A) → Decides (same x y) (x ≡ y)) (first : ℕ) where
  abbrev find : A → List A → Option ℕ
  find x [] = None
  find x (y ∷ ys) = if same x y then Some first else option_map suc (find x ys)

  not_found : (x : A) (ys : List A) → (find x ys ≡ None) ↔ (¬ (IsAmong x ys))
  not_found x [] = (λ e h. h, λ n. refl)
  not_found x (y ∷ ys) = by (same x y) refl (not_found x ys)
    where
      by : (b : Bool) → same x y ≡ b → (find x ys ≡ None) ↔ (¬ (IsAmong x ys))
          → ((if b then Some first else option_map suc (find x ys)) ≡ None) ↔ (¬ (IsAmong x (y ∷ ys)))
      by true q h = (λ e. cc e, λ n. absurd (n (inl ((decides x y).0 q))))
      by false q h =
          let r = map_none (¬ (IsAmong x ys)) suc (find x ys) h in (
            λ e p. elim p [ inl s ↦ (let t : false ≡ true = sym q ∙ (decides x y).1 s in cc t) | inr s ↦ r.0 e s ],
            λ n. r.1 (λ s. n (inr s)),
          )

found_name : (x : Name) (ys : List Name) → find bytes_eq bytes_eq-Decides 1 x ys ≡ number_of x ys
found_name x [] = refl
found_name x (y ∷ ys) = ap (λ o. if bytes_eq x y then Some 1 else option_map suc o) (found_name x ys)

pub not_numbered : (x : Name) (ys : List Name) → (number_of x ys ≡ None) ↔ (¬ (IsAmong x ys))
not_numbered x ys = subst (λ o. (o ≡ None) ↔ (¬ (IsAmong x ys))) (found_name x ys) (not_found bytes_eq bytes_eq-Decides 1 x ys)

binder_decides : (x y : Binder) → Decides (same_binder x y) (x ≡ y)
binder_decides (raw.name x) (raw.name y) = (λ e. ap raw.name ((bytes_eq-Decides x y).0 e), λ q. (bytes_eq-Decides x y).1 (let r : x ≡ y = cc q in r))
binder_decides (level m) (level n) = (λ e. ap level ((Decides-eqb m n).0 e), λ q. (Decides-eqb m n).1 (let r : m ≡ n = cc q in r))
binder_decides (raw.name x) (level n) = (λ e. cc e, λ q. cc q)
binder_decides (level n) (raw.name x) = (λ e. cc e, λ q. cc q)

found_binder : (x : Binder) (ys : List Binder) → find same_binder binder_decides 0 x ys ≡ place_of x ys
found_binder x [] = refl
found_binder x (y ∷ ys) = ap (λ o. if same_binder x y then Some 0 else option_map suc o) (found_binder x ys)

not_placed : (x : Binder) (ys : List Binder) → (place_of x ys ≡ None) ↔ (¬ (IsAmong x ys))
not_placed x ys = subst (λ o. (o ≡ None) ↔ (¬ (IsAmong x ys))) (found_binder x ys) (not_found same_binder binder_decides 0 x ys)

no_variable : (x : Name) (vs : List (List ℕ × ℕ)) → (variable_named x vs ≡ None) ↔ (¬ (IsAmong x (map (λ (v : Name × ℕ). v.0) vs)))
no_variable x [] = (λ e h. h, λ n. refl)
no_variable x (v ∷ vs) = by (bytes_eq x v.0) refl (no_variable x vs)
  where
    by : (b : Bool) → bytes_eq x v.0 ≡ b → (variable_named x vs ≡ None) ↔ (¬ (IsAmong x (map (λ (v : Name × ℕ). v.0) vs)))
        → ((if b then Some v.1 else variable_named x vs) ≡ None) ↔ (¬ (IsAmong x (map (λ (v : Name × ℕ). v.0) (v ∷ vs))))
    by true q h = (λ e. cc e, λ n. absurd (n (inl ((bytes_eq-Decides x v.0).0 q))))
    by false q h = (
      λ e p. elim p [ inl s ↦ (let t : false ≡ true = sym q ∙ (bytes_eq-Decides x v.0).1 s in cc t) | inr s ↦ h.0 e s ],
      λ n. h.1 (λ s. n (inr s)),
    )

-- ---- words

program_word : (x : Name) (ys : List Name) → ((if is_taken x ys then Some the_program else None) ≡ None) ↔ (¬ (IsAmong x ys))
program_word x ys = by (is_taken x ys) (is_false (IsAmong x ys) (is_taken x ys) (taken_decides x ys))
  where
    by : (b : Bool) → (b ≡ false) ↔ (¬ (IsAmong x ys)) → ((if b then Some the_program else None) ≡ None) ↔ (¬ (IsAmong x ys))
    by true h = (λ e. cc e, λ n. let q = h.1 n in cc q)
    by false h = (λ e. h.0 refl, λ n. refl)

no_word : (D : Declared) (x : Name) → (word_named D x ≡ None) ↔ (¬ (IsAmong x (names_of_values D)))
no_word D x =
    let con = constructor_names D.datatypes in
    let fun = names_of_functions D in
    let rest = name_of_program D.program in
    let last = if is_taken x rest then Some the_program else None in
    let middle = option_map_or (λ f. Some (function f)) (number_of x fun) last in (
      λ e p.
          let a = or_none constructor (number_of x con) middle e in
          let b = or_none function (number_of x fun) last a.1 in
          elim (among_either x con (fun ++ rest) p) [
            | inl q ↦ (not_numbered x con).0 a.0 q
            | inr q ↦ elim (among_either x fun rest q) [ inl r ↦ (not_numbered x fun).0 b.0 r | inr r ↦ (program_word x rest).0 b.1 r ]
          ],
      λ n.
          none_both constructor (number_of x con) middle ((not_numbered x con).1 (λ p. n (among_left x con (fun ++ rest) p)))
          (none_both function (number_of x fun) last ((not_numbered x fun).1 (λ p. n (among_right x con (fun ++ rest) (among_left x fun rest p))))
          ((program_word x rest).1 (λ p. n (among_right x con (fun ++ rest) (among_right x fun rest p))))),
    )

not_usable : (D : Declared) (own : List Name) (r : Bool) (x : Name) (us : Resolveds)
    → ((if r && is_taken x own then Some (resolved.own us) else option_map (word_on us) (word_named D x)) ≡ None)
    ↔ (¬ (IsAmong x (if r then names_of_values D ++ own else names_of_values D)))
not_usable D own false x us = map_none (¬ (IsAmong x (names_of_values D))) (word_on us) (word_named D x) (no_word D x)
not_usable D own true x us = by (is_taken x own) (is_false (IsAmong x own) (is_taken x own) (taken_decides x own))
  where
    rest : (option_map (word_on us) (word_named D x) ≡ None) ↔ (¬ (IsAmong x (names_of_values D)))
    rest = map_none (¬ (IsAmong x (names_of_values D))) (word_on us) (word_named D x) (no_word D x)

    by : (b : Bool) → (b ≡ false) ↔ (¬ (IsAmong x own))
        → ((if b then Some (resolved.own us) else option_map (word_on us) (word_named D x)) ≡ None) ↔ (¬ (IsAmong x (names_of_values D ++ own)))
    by true h = (λ e. cc e, λ n. let q = h.1 (λ p. n (among_right x (names_of_values D) own p)) in cc q)
    by false h = (
      λ e p. elim (among_either x (names_of_values D) own p) [ inl q ↦ rest.0 e q | inr q ↦ h.0 refl q ],
      λ n. rest.1 (λ p. n (among_left x (names_of_values D) own p)),
    )

unknown : (S : Scope) (locs : List Binder) (x : Name) (us : Resolveds) → (word_meant S locs x us ≡ None) ↔ IsUnknown S locs x
unknown S locs x us =
    let inner = option_map_or (λ n. Some (variable_on (resolved.free n) us)) (variable_named x S.variables) (declared_on S x us) in (
      λ e.
          let a = or_none (λ k. variable_on (resolved.bound k) us) (place_of (raw.name x) locs) inner e in
          let b = or_none (λ n. variable_on (resolved.free n) us) (variable_named x S.variables) (declared_on S x us) a.1 in
          record {
            not_bound = (not_placed (raw.name x) locs).0 a.0;
            no_variable = (no_variable x S.variables).0 b.0;
            not_declared = (not_usable S.declared S.own S.is_recursive x us).0 b.1;
          },
      λ h.
          none_both (λ k. variable_on (resolved.bound k) us) (place_of (raw.name x) locs) inner ((not_placed (raw.name x) locs).1 h.not_bound)
          (none_both (λ n. variable_on (resolved.free n) us) (variable_named x S.variables) (declared_on S x us) ((no_variable x S.variables).1 h.no_variable)
          ((not_usable S.declared S.own S.is_recursive x us).1 h.not_declared)),
    )

-- ---- binders and heads

certain : (b : Bool) → (not b ≡ false) ↔ (b ≡ true)
certain true = (λ e. refl, λ e. refl)
certain false = (λ e. cc e, λ e. cc e)

turned : {P Q : Type 0} → P ⊎ Q → Q ⊎ P
turned (inl p) = inr p
turned (inr q) = inl q

bad_binder : (S : Scope) (locs : List Binder) (x : Binder) → (may_bind S locs x ≡ false) ↔ IsBadBinder S locs x
bad_binder S locs (raw.name x) =
    let r = and_false (S.in_certificate ≡ true) (IsAmong x (taken_names S)) (not S.in_certificate) (not (is_taken x (taken_names S))) (certain S.in_certificate)
    (not_is_false (IsAmong x (taken_names S)) (is_taken x (taken_names S)) (taken_decides x (taken_names S))) in
    (λ e. turned (r.0 e), λ h. r.1 (turned h))
bad_binder S locs (level n) =
    and_false (S.in_certificate ≡ false) (¬ (n ≡ suc (length locs))) S.in_certificate (nat_eq n (suc (length locs))) (λ e. e, λ e. e)
    (is_false (n ≡ suc (length locs)) (nat_eq n (suc (length locs))) (Decides-eqb n (suc (length locs))))

bad_binders : (S : Scope) (locs xs : List Binder) → (may_bind_all S locs xs ≡ false) ↔ AreBadBinders S locs xs
bad_binders S locs [] = (λ e. cc e, λ h. absurd h)
bad_binders S locs (x ∷ xs) =
    and_false (IsBadBinder S locs x) (AreBadBinders S (x ∷ locs) xs) (may_bind S locs x) (may_bind_all S (x ∷ locs) xs) (bad_binder S locs x)
    (bad_binders S (x ∷ locs) xs)

pub no_constructor : (D : Declared) (h : RawHead) → (head_meant D h ≡ None) ↔ IsNoConstructor D h
no_constructor D zero_word = (λ e. cc e, λ h. absurd h)
no_constructor D successor_word = (λ e. cc e, λ h. absurd h)
no_constructor D (constructor_word x) =
    map_none (¬ (IsAmong x (constructor_names D.datatypes))) of (constructor_named D x) (not_numbered x (constructor_names D.datatypes))

-- ---- terms

in_text : (b : Bool) (t : Resolved) → ((if b then Some t else None) ≡ None) ↔ (b ≡ false)
in_text true t = (λ e. cc e, λ e. cc e)
in_text false t = (λ e. refl, λ e. refl)

module _ (S : Scope) where
  mutual
    pub misnamed : (locs : List Binder) (t : RawTerm) → (resolve S locs t ≡ None) ↔ Misnamed S locs t
    misnamed locs (raw.number n) = never (resolved.literal n)
    misnamed locs (raw.truth b) = never (resolved.truth b)
    misnamed locs (raw.word x ts) =
        then_none (AllMisnamed S locs ts) (IsUnknown S locs x) (word_meant S locs x) (resolve_all S locs ts) (all_misnamed locs ts) (λ us e. unknown S locs x us)
    misnamed locs (raw.question n) = in_text S.in_certificate (resolved.free n)
    misnamed locs (raw.bang n) = map_none (¬ (IsAmong (level n) locs)) resolved.bound (place_of (level n) locs) (not_placed (level n) locs)
    misnamed locs (raw.op o ts) = map_none (AllMisnamed S locs ts) (resolved.op o) (resolve_all S locs ts) (all_misnamed locs ts)
    misnamed locs (raw.choice ts) = map_none (AllMisnamed S locs ts) resolved.choice (resolve_all S locs ts) (all_misnamed locs ts)
    misnamed locs (raw.bind x t body) =
        let inner = misnamed (x ∷ locs) body in
        if_none (IsBadBinder S locs x) (Misnamed S locs t ⊎ Misnamed S (x ∷ locs) body) (may_bind S locs x)
        (option_and_then (λ u. option_map (resolved.bind u) (resolve S (x ∷ locs) body)) (resolve S locs t)) (bad_binder S locs x)
        (then_none (Misnamed S locs t) (Misnamed S (x ∷ locs) body) (λ u. option_map (resolved.bind u) (resolve S (x ∷ locs) body)) (resolve S locs t)
        (misnamed locs t) (λ u e. map_none (Misnamed S (x ∷ locs) body) (resolved.bind u) (resolve S (x ∷ locs) body) inner))
    misnamed locs (raw.case t bs) =
        let inner = branches_misnamed locs bs in
        then_none (Misnamed S locs t) (BranchesMisnamed S locs bs)
        (λ u. option_map (λ vs. resolved.case (datatype_of_first S.declared vs) u vs) (resolve_branches S locs bs)) (resolve S locs t) (misnamed locs t)
        (λ u e. map_none (BranchesMisnamed S locs bs) (λ vs. resolved.case (datatype_of_first S.declared vs) u vs) (resolve_branches S locs bs) inner)
    misnamed locs raw.unread = (λ e. tt, λ h. refl)

    all_misnamed : (locs : List Binder) (ts : RawTerms) → (resolve_all S locs ts ≡ None) ↔ AllMisnamed S locs ts
    all_misnamed locs raw.none = never resolved.none
    all_misnamed locs (raw.more t ts) =
        let inner = all_misnamed locs ts in
        then_none (Misnamed S locs t) (AllMisnamed S locs ts) (λ u. option_map (resolved.more u) (resolve_all S locs ts)) (resolve S locs t) (misnamed locs t)
        (λ u e. map_none (AllMisnamed S locs ts) (resolved.more u) (resolve_all S locs ts) inner)

    branches_misnamed : (locs : List Binder) (bs : RawBranches) → (resolve_branches S locs bs ≡ None) ↔ BranchesMisnamed S locs bs
    branches_misnamed locs raw.end = never resolved.end
    branches_misnamed locs (raw.branch head xs body bs) =
        let side = misnamed (reverse xs ++ locs) body in
        let inner = branches_misnamed locs bs in
        let Side = Misnamed S (reverse xs ++ locs) body in
        let Rest = BranchesMisnamed S locs bs in
        let found = resolve S (reverse xs ++ locs) body in
        if_none (AreBadBinders S locs xs) (IsNoConstructor S.declared head ⊎ (Side ⊎ Rest)) (may_bind_all S locs xs)
        (option_and_then (λ h. option_and_then (λ u. option_map (resolved.branch h (map name_of xs) u) (resolve_branches S locs bs)) found) (head_meant S.declared head))
        (bad_binders S locs xs)
        (then_none (IsNoConstructor S.declared head) (Side ⊎ Rest)
        (λ h. option_and_then (λ u. option_map (resolved.branch h (map name_of xs) u) (resolve_branches S locs bs)) found) (head_meant S.declared head)
        (no_constructor S.declared head)
        (λ h e. then_none Side Rest (λ u. option_map (resolved.branch h (map name_of xs) u) (resolve_branches S locs bs)) found side
        (λ u f. map_none Rest (resolved.branch h (map name_of xs) u) (resolve_branches S locs bs) inner)))

pub terms_are_misnamed : TermsAreMisnamed
terms_are_misnamed S locs t = misnamed S locs t
