-- What embedding a term leans on.
use Rattle.std.proofs.Common.{ℕ, zero, suc, ◌≡◌, ◌+◌, Bool, true, false, ◌&&◌, nat_eq, List, [], ◌∷◌, ◌++◌, map, drop, length, Option, Some, None, refl, sym, ◌∙◌, ap, subst, inl, inr, arith, if◌then◌else◌}
use Rattle.std.specs.Prelude.{slice_get, option_map}
use Rattle.std.specs.Option.{option_map_or}
use Rattle.std.proofs.lemmas.Bool.Decides.{eqb_tells}
use Rattle.std.proofs.lemmas.List.{length-map, map-append, append_assoc, append-nil}
use Rattle.tg_model.specs.Tree.{Tree, trees, case}
use Rattle.tg_model.specs.Theory as model
use Rattle.tg_model.specs.Theory.{Theory, numbered, first_constructor}
use Rattle.tg_model.specs.TypeLaws.{branch_sizes}
use Rattle.tg_accept.specs.Resolved as resolveds
use Rattle.tg_accept.specs.Core.{heads_of, heads_from, unnamed}
use Rattle.tg_accept.specs.Declared.{Declared, theory}
use Rattle.tg_term.specs.declared.terms.Branch.{Branch}
use Rattle.tg_term.specs.View.{arms}
use Rattle.tg_term.specs.Operators.{operator}
use Rattle.tg_types.specs.Types.{ty}
use Rattle.tg_term.proofs.PartLaws.{drop_at}
use Rattle.tg_term.proofs.ListHeights.{height_at, branch_height_at}
use Rattle.tg_declarations.specs.declared.definitions.ConDef.{ConDef}
use Rattle.tg_declarations.specs.declared.definitions.DataDef.{DataDef}
use Rattle.tg_declarations.specs.Owners.{numbers_from}
use Rattle.tg_declarations.specs.View.{datatype, constructor, constructor_numbers}
use Rattle.tg_typing.specs.declared.resolved.Resolved.{Resolved}
use Rattle.tg_typing.specs.declared.resolved.Resolved.TheVariants.{Con, Call, Misused, Put, If, Case, Let, Op}
use Rattle.tg_typing.specs.declared.resolved.Branch as resolved_branch
use Rattle.tg_typing.specs.View.{Seen, head, seen, listed, branched, resolved, all_resolved, branches, seen-Branch}
use Rattle.tg_typing.specs.View.{resolved-Bound, resolved-Free, resolved-Lit, resolved-Truth, resolved-Con, resolved-Call, resolved-Misused, resolved-Put, resolved-If, resolved-Case, resolved-Let, resolved-Op}
use Rattle.tg_theory.specs.Embedded.{same_sizes, are_sizes, embedded, all_embedded, branches_embedded}

-- ---- lists of terms

listed_all : (th : Theory) (ts : List Tree) → listed (map (embedded th) ts) ≡ all_embedded th (trees ts)
listed_all th [] = refl
listed_all th (t ∷ ts) = ap (resolveds.more (embedded th t)) (listed_all th ts)

pub embedded_list : (th : Theory) (ts : List Tree) (rs : List Resolved) → map resolved rs ≡ map (embedded th) ts → all_resolved rs ≡ all_embedded th (trees ts)
embedded_list th ts rs e = ap listed e ∙ listed_all th ts

pub embedded_more : (th : Theory) (first : List Tree) (t : Tree) (rs : List Resolved) (r : Resolved) → map resolved rs ≡ map (embedded th) first
    → resolved r ≡ embedded th t → map resolved (rs ++ r ∷ []) ≡ map (embedded th) (first ++ t ∷ [])
embedded_more th first t rs r e f =
    map-append resolved rs (r ∷ []) ∙ (λ i. e i ++ f i ∷ []) ∙ sym (map-append (embedded th) first (t ∷ []))

-- ---- branches

abbrev pub seen_all : Theory → List Branch → List resolveds.Head → List Seen
seen_all th (b ∷ bs) (h ∷ hs) = (let s : Seen = record { head = h; names = unnamed b.vars; body = embedded th b.body } in s) ∷ seen_all th bs hs
seen_all th bs hs = []

pub embedded_branches : (th : Theory) (bs : List Branch) (hs : List resolveds.Head) → branched (seen_all th bs hs) ≡ branches_embedded th (arms bs) hs
embedded_branches th [] hs = refl
embedded_branches th (b ∷ bs) [] = refl
embedded_branches th (b ∷ bs) (h ∷ hs) = ap (resolveds.branch h (unnamed b.vars) (embedded th b.body)) (embedded_branches th bs hs)

pub no_head : (th : Theory) (bs : List Branch) (hs : List resolveds.Head) (i : ℕ) → slice_get hs i ≡ None → seen_all th (drop i bs) (drop i hs) ≡ []
no_head th bs [] zero e = none bs
  where
    none : (bs : List Branch) → seen_all th bs [] ≡ []
    none [] = refl
    none (b ∷ bs) = refl
no_head th bs (h ∷ hs) zero e = cc e
no_head th [] hs (suc i) e = nothing hs
  where
    nothing : (hs : List resolveds.Head) → seen_all th [] (drop (suc i) hs) ≡ []
    nothing hs = refl
no_head th (b ∷ bs) [] (suc i) e = none (drop i bs)
  where
    none : (bs : List Branch) → seen_all th bs [] ≡ []
    none [] = refl
    none (b ∷ bs) = refl
no_head th (b ∷ bs) (h ∷ hs) (suc i) e = no_head th bs hs i e

pub next_branch : (th : Theory) (bs : List Branch) (hs : List resolveds.Head) (i : ℕ) (b : Branch) (h : resolveds.Head) → slice_get bs i ≡ Some b → slice_get hs i ≡ Some h
    → seen_all th (drop i bs) (drop i hs)
    ≡ (let s : Seen = record { head = h; names = unnamed b.vars; body = embedded th b.body } in s) ∷ seen_all th (drop (suc i) bs) (drop (suc i) hs)
next_branch th bs hs i b h e f = λ j. seen_all th (drop_at bs i b e j) (drop_at hs i h f j)

pub branch_kept : (th : Theory) (bs : List Branch) (hs : List resolveds.Head) (i : ℕ) (b : Branch) (h : resolveds.Head) (all all' : List resolved_branch.Branch)
    (new : resolved_branch.Branch) (every : List Seen) → slice_get bs i ≡ Some b → slice_get hs i ≡ Some h
    → map seen all ++ seen_all th (drop i bs) (drop i hs) ≡ every → all' ≡ all ++ new ∷ [] → head new.head ≡ h → new.names ≡ unnamed b.vars
    → resolved new.body ≡ embedded th b.body → map seen all' ++ seen_all th (drop (i + 1) bs) (drop (i + 1) hs) ≡ every
branch_kept th bs hs i b h all all' new every at ath kept more q names body =
    let one : seen new ≡ record { head = h; names = unnamed b.vars; body = embedded th b.body } =
    seen-Branch new ∙ (λ j. record { head = q j; names = names j; body = body j }) in
    let next : i + 1 ≡ suc i = omega arith in
    ap (λ l. map seen l ++ seen_all th (drop (i + 1) bs) (drop (i + 1) hs)) more
    ∙ ap (λ l. l ++ seen_all th (drop (i + 1) bs) (drop (i + 1) hs)) (map-append seen all (new ∷ []))
    ∙ append_assoc (map seen all) (seen new ∷ []) (seen_all th (drop (i + 1) bs) (drop (i + 1) hs))
    ∙ (λ j. map seen all ++ one j ∷ seen_all th (drop (next j) bs) (drop (next j) hs))
    ∙ ap (λ l. map seen all ++ l) (sym (next_branch th bs hs i b h at ath))
    ∙ kept

pub branches_end : (th : Theory) (bs : List Branch) (hs : List resolveds.Head) (left : List Seen) (all : List resolved_branch.Branch)
    → map seen all ++ left ≡ seen_all th bs hs → left ≡ [] → branches all ≡ branches_embedded th (arms bs) hs
branches_end th bs hs left all kept none =
    ap branched (sym (append-nil (map seen all)) ∙ ap (λ l. map seen all ++ l) (sym none) ∙ kept) ∙ embedded_branches th bs hs

pub none_left : (th : Theory) (bs : List Branch) (hs : List resolveds.Head) (i : ℕ) → drop i bs ≡ [] → seen_all th (drop i bs) (drop i hs) ≡ []
none_left th bs hs i e = ap (λ l. seen_all th l (drop i hs)) e

pub unnamed_more : (n : ℕ) → unnamed n ++ [] ∷ [] ≡ unnamed (n + 1)
unnamed_more zero = refl
unnamed_more (suc n) = let e : suc (n + 1) ≡ suc n + 1 = omega arith in ap (λ l. [] ∷ l) (unnamed_more n) ∙ ap unnamed e

-- ---- heads

head_number : (c count i : ℕ) → slice_get (heads_from c count) i ≡ option_map resolveds.of (slice_get (numbers_from c count) i)
head_number c zero i = refl
head_number c (suc count) zero = refl
head_number c (suc count) (suc i) = head_number (suc c) count i

pub heads_numbered : (D : Declared) (d i : ℕ) → slice_get (heads_of (theory [] D) (suc d)) i ≡ option_map resolveds.of (slice_get (constructor_numbers D.datatypes (suc d)) i)
heads_numbered D d i = by (slice_get D.datatypes d)
  where
    by : (o : Option model.Datatype) →
        slice_get (heads_from (first_constructor D.datatypes (suc d)) (option_map_or (λ (x : model.Datatype). length x.constructors) o 0)) i
        ≡ option_map resolveds.of (slice_get (option_map_or (λ (x : model.Datatype). numbers_from (first_constructor D.datatypes (suc d)) (length x.constructors)) o []) i)
    by None = refl
    by (Some x) = head_number (first_constructor D.datatypes (suc d)) (length x.constructors) i

pub head_there : (D : Declared) (n i c : ℕ) (ns : List ℕ) → ¬ (n ≡ 0) → ns ≡ constructor_numbers D.datatypes n → slice_get ns i ≡ Some c
    → Some (resolveds.of c) ≡ slice_get (heads_of (theory [] D) n) i
head_there D zero i c ns p e at = absurd (p refl)
head_there D (suc d) i c ns p e at = ap (option_map resolveds.of) (sym at) ∙ ap (λ l. option_map resolveds.of (slice_get l i)) e ∙ sym (heads_numbered D d i)

pub head_missing : (D : Declared) (n i : ℕ) (ns : List ℕ) → ¬ (n ≡ 0) → ns ≡ constructor_numbers D.datatypes n → slice_get ns i ≡ None
    → None ≡ slice_get (heads_of (theory [] D) n) i
head_missing D zero i ns p e at = absurd (p refl)
head_missing D (suc d) i ns p e at = ap (option_map resolveds.of) (sym at) ∙ ap (λ l. option_map resolveds.of (slice_get l i)) e ∙ sym (heads_numbered D d i)

pub ruleset heads = (head_there, head_missing)

-- ---- sizes

pub equal : (m n : ℕ) → m ≡ n → nat_eq m n ≡ true
equal m n e = elim (eqb_tells m n) [ inl p ↦ p.0 | inr p ↦ absurd (p.1 e) ]

pub differ : (m n : ℕ) → ¬ (m ≡ n) → nat_eq m n ≡ false
differ m n e = elim (eqb_tells m n) [ inl p ↦ absurd (e p.1) | inr p ↦ p.0 ]

pub sizes_uneven : (bs : List Branch) (cons : List ConDef) → ¬ (length bs ≡ length cons)
    → false ≡ same_sizes (map (λ (c : ConDef). length c.args) cons) (branch_sizes (arms bs))
sizes_uneven [] [] e = absurd (e refl)
sizes_uneven [] (c ∷ cs) e = refl
sizes_uneven (b ∷ bs) [] e = refl
sizes_uneven (b ∷ bs) (c ∷ cs) e = by (nat_eq b.vars (length c.args)) (sizes_uneven bs cs (λ p. e (ap suc p)))
  where
    by : (x : Bool) → false ≡ same_sizes (map (λ (c : ConDef). length c.args) cs) (branch_sizes (arms bs))
        → false ≡ (x && same_sizes (map (λ (c : ConDef). length c.args) cs) (branch_sizes (arms bs)))
    by true q = q
    by false q = refl

pub ruleset sizes = (sizes_uneven, equal, differ)

sizes_seen : (cs : List ConDef) → map (λ (c : model.Constructor). length c.arguments) (map constructor cs) ≡ map (λ (c : ConDef). length c.args) cs
sizes_seen [] = refl
sizes_seen (c ∷ cs) = λ i. length-map c.args ty i ∷ sizes_seen cs i

pub sizes_declared : (D : Declared) (n : ℕ) (def : DataDef) (ns : List ℕ) → ¬ (n ≡ 0) → Some (datatype def) ≡ numbered D.datatypes n
    → same_sizes (map (λ (c : ConDef). length c.args) def.cons) ns ≡ are_sizes (theory [] D) n ns
sizes_declared D zero def ns p e = absurd (p refl)
sizes_declared D (suc d) def ns p e =
    ap (λ ms. same_sizes ms ns) (sym (sizes_seen def.cons))
    ∙ ap (λ o. option_map_or (λ ms. same_sizes ms ns) (option_map (λ (x : model.Datatype). map (λ (c : model.Constructor). length c.arguments) x.constructors) o) false) e

pub sizes_undeclared : (D : Declared) (n : ℕ) (ns : List ℕ) → ¬ (n ≡ 0) → None ≡ numbered D.datatypes n → false ≡ are_sizes (theory [] D) n ns
sizes_undeclared D zero ns p e = absurd (p refl)
sizes_undeclared D (suc d) ns p e =
    ap (λ o. option_map_or (λ ms. same_sizes ms ns) (option_map (λ (x : model.Datatype). map (λ (c : model.Constructor). length c.arguments) x.constructors) o) false) e

pub natural_sizes : (D : Declared) (n : ℕ) (bs : List Branch) (z s : Branch) → n ≡ 0 → slice_get bs 0 ≡ Some z → slice_get bs 1 ≡ Some s → length bs ≡ 2
    → (nat_eq z.vars 0 && nat_eq s.vars 1) ≡ are_sizes (theory [] D) n (branch_sizes (arms bs))
natural_sizes D n [] z s m e f l = cc e
natural_sizes D n (x ∷ []) z s m e f l = cc f
natural_sizes D n (x ∷ y ∷ []) z s m e f l =
    let a : x ≡ z = cc e in
    let b : y ≡ s = cc f in
    subst (λ k. (nat_eq z.vars 0 && nat_eq s.vars 1) ≡ are_sizes (theory [] D) k (x.vars ∷ y.vars ∷ [])) (sym m)
    ((λ i. nat_eq (sym a i).vars 0 && nat_eq (sym b i).vars 1) ∙ ap (λ q. nat_eq x.vars 0 && q) (sym (last (nat_eq y.vars 1))))
  where
    last : (q : Bool) → (q && true) ≡ q
    last true = refl
    last false = refl
natural_sizes D n (x ∷ y ∷ w ∷ bs) z s m e f l = absurd (omega (arith, l))

pub naturals_uneven : (D : Declared) (n : ℕ) (bs : List Branch) → n ≡ 0 → ¬ (length bs ≡ 2) → false ≡ are_sizes (theory [] D) n (branch_sizes (arms bs))
naturals_uneven D n bs m l = subst (λ k. false ≡ are_sizes (theory [] D) k (branch_sizes (arms bs))) (sym m) (by bs l)
  where
    by : (bs : List Branch) → ¬ (length bs ≡ 2) → false ≡ same_sizes (0 ∷ 1 ∷ []) (branch_sizes (arms bs))
    by [] l = refl
    by (x ∷ []) l = drop_both (nat_eq x.vars 0)
      where
        drop_both : (q : Bool) → false ≡ (q && false)
        drop_both true = refl
        drop_both false = refl
    by (x ∷ y ∷ []) l = absurd (l refl)
    by (x ∷ y ∷ z ∷ bs) l = both (nat_eq x.vars 0) (nat_eq y.vars 1)
      where
        both : (q r : Bool) → false ≡ (q && (r && false))
        both true true = refl
        both true false = refl
        both false r = refl

pub ruleset branch_sizes_of = (sizes_declared, sizes_undeclared, naturals_uneven)

-- ---- terms

pub at_con : (th : Theory) (c : ℕ) (ts : List Tree) (rs : List Resolved) → all_resolved rs ≡ all_embedded th (trees ts) → resolved (Con c rs) ≡ resolveds.con c (all_embedded th (trees ts))
at_con th c ts rs e = resolved-Con c rs ∙ ap (resolveds.con c) e

pub at_call : (th : Theory) (f : ℕ) (ts : List Tree) (rs : List Resolved) → all_resolved rs ≡ all_embedded th (trees ts) → resolved (Call f rs) ≡ resolveds.call f (all_embedded th (trees ts))
at_call th f ts rs e = resolved-Call f rs ∙ ap (resolveds.call f) e

pub at_put : (th : Theory) (ts : List Tree) (rs : List Resolved) → all_resolved rs ≡ all_embedded th (trees ts) → resolved (Put rs) ≡ resolveds.put (all_embedded th (trees ts))
at_put th ts rs e = resolved-Put rs ∙ ap resolveds.put e

pub at_if : (th : Theory) (ts : List Tree) (rs : List Resolved) → all_resolved rs ≡ all_embedded th (trees ts) → resolved (If rs) ≡ resolveds.choice (all_embedded th (trees ts))
at_if th ts rs e = resolved-If rs ∙ ap resolveds.choice e

pub at_op : (th : Theory) (o : ℕ) (ts : List Tree) (rs : List Resolved) → all_resolved rs ≡ all_embedded th (trees ts)
    → resolved (Op o rs) ≡ resolveds.op (operator o) (all_embedded th (trees ts))
at_op th o ts rs e = resolved-Op o rs ∙ ap (resolveds.op (operator o)) e

pub at_let : (th : Theory) (t u : Tree) (r s : Resolved) → resolved r ≡ embedded th t → resolved s ≡ embedded th u
    → resolved (Let r s) ≡ resolveds.bind (embedded th t) (embedded th u)
at_let th t u r s e f = resolved-Let r s ∙ (λ i. resolveds.bind (e i) (f i))

pub at_case : (th : Theory) (n : ℕ) (t : Tree) (bs : List Branch) (r : Resolved) (rs : List resolved_branch.Branch) → are_sizes th n (branch_sizes (arms bs)) ≡ true
    → resolved r ≡ embedded th t → branches rs ≡ branches_embedded th (arms bs) (heads_of th n) → resolved (Case n r rs) ≡ embedded th (case n t (arms bs))
at_case th n t bs r rs whole e f =
    resolved-Case n r rs ∙ (λ i. resolveds.case n (e i) (f i))
    ∙ ap (λ b. if b then resolveds.case n (embedded th t) (branches_embedded th (arms bs) (heads_of th n)) else resolveds.misused resolveds.none) (sym whole)

pub at_broken : (th : Theory) (n : ℕ) (t : Tree) (bs : List Branch) → are_sizes th n (branch_sizes (arms bs)) ≡ false
    → resolved (Misused []) ≡ embedded th (case n t (arms bs))
at_broken th n t bs broken =
    resolved-Misused []
    ∙ ap (λ b. if b then resolveds.case n (embedded th t) (branches_embedded th (arms bs) (heads_of th n)) else resolveds.misused resolveds.none) (sym broken)

pub ruleset embeddings = (height_at, branch_height_at, at_con, at_call, at_put, at_if, at_op, at_let, at_case, at_broken, resolved-Bound, resolved-Free, resolved-Lit, resolved-Truth, embedded_list)
