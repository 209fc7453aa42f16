-- Laws of two roots made one node.
use Rattle.std.proofs.Common.{ℕ, suc, ◌≡◌, ◌+◌, ◌<◌, ◌≤◌, Bool as Truth, true, false, List, [], ◌∷◌, ◌++◌, length, get_or, set, nat_eq, if◌then◌else◌, refl, ap, sym, ◌∙◌, subst, arith, inl, inr}
use Rattle.std.specs.Prelude.{◌≢◌}
use Rattle.std.proofs.lemmas.Bool.{eqb-true}
use Rattle.std.proofs.lemmas.Bool.Decides.{eqb_tells}
use Rattle.std.proofs.lemmas.List.{length-set, length-append, get_or_read}
use Rattle.tg_model.specs.Types as model
use Rattle.tg_types.specs.Substitutions.{Assignment}
use Rattle.tg_shared_types.specs.declared.nodes.Node.{Node}
use Rattle.tg_shared_types.specs.declared.nodes.Node.TheVariants.{Open, Link, Nat, Bool, Param, App}
use Rattle.tg_shared_types.specs.Nodes.{types_of, Says, node_at, Fits, AreBelow, Names, IsNodeTable, IsRoot}
use Rattle.tg_shared_types.specs.Pairs.{AreSame, PairsBelow, paired, Meeting, first, second, parts, never, meet, Carries, NoneFits, weight, weights}
use Rattle.tg_shared_types.proofs.NodeLaws.{says_at, names_root, node_other, set_fits, fits_here, fits_other, fits_unset, table_set, weights_set}

-- lists of pairs
pub same_append : (ρ : Assignment) (ps qs : List (ℕ × ℕ)) → AreSame ρ (ps ++ qs) → AreSame ρ ps × AreSame ρ qs
same_append ρ [] qs s = (tt, s)
same_append ρ (p ∷ ps) qs s = let r = same_append ρ ps qs s.1 in ((s.0, r.0), r.1)

pub append_same : (ρ : Assignment) (ps qs : List (ℕ × ℕ)) → AreSame ρ ps → AreSame ρ qs → AreSame ρ (ps ++ qs)
append_same ρ [] qs s t = t
append_same ρ (p ∷ ps) qs s t = (s.0, append_same ρ ps qs s.1 t)

pub below_append : (n : ℕ) (ps qs : List (ℕ × ℕ)) → PairsBelow n ps → PairsBelow n qs → PairsBelow n (ps ++ qs)
below_append n [] qs s t = t
below_append n (p ∷ ps) qs s t = (s.0, s.1, below_append n ps qs s.2 t)

pub append_below : (n : ℕ) (ps qs : List (ℕ × ℕ)) → PairsBelow n (ps ++ qs) → PairsBelow n ps × PairsBelow n qs
append_below n [] qs s = (tt, s)
append_below n (p ∷ ps) qs s = let r = append_below n ps qs s.2 in ((s.0, s.1, r.0), r.1)

paired_below : (n : ℕ) (ks ls : List ℕ) → AreBelow n ks → AreBelow n ls → PairsBelow n (paired ks ls)
paired_below n [] ls s t = tt
paired_below n (k ∷ ks) [] s t = tt
paired_below n (k ∷ ks) (l ∷ ls) s t = (s.0, t.0, paired_below n ks ls s.1 t.1)

paired_length : (ks ls : List ℕ) → length ks ≡ length ls → length (paired ks ls) ≡ length ls
paired_length [] [] e = refl
paired_length [] (l ∷ ls) e = absurd (omega (arith, e))
paired_length (k ∷ ks) [] e = absurd (omega (arith, e))
paired_length (k ∷ ks) (l ∷ ls) e = ap suc (paired_length ks ls (omega (arith, e)))

-- lists of nodes of one length have one list of types exactly where their pairs have one type each
types_paired : (ρ : Assignment) (ks ls : List ℕ) → types_of ρ ks ≡ types_of ρ ls → AreSame ρ (paired ks ls)
types_paired ρ [] ls e = tt
types_paired ρ (k ∷ ks) [] e = tt
types_paired ρ (k ∷ ks) (l ∷ ls) e = (cc, types_paired ρ ks ls cc)

paired_types : (ρ : Assignment) (ks ls : List ℕ) → length ks ≡ length ls → AreSame ρ (paired ks ls) → types_of ρ ks ≡ types_of ρ ls
paired_types ρ [] [] n s = refl
paired_types ρ [] (l ∷ ls) n s = absurd (omega (arith, n))
paired_types ρ (k ∷ ks) [] n s = absurd (omega (arith, n))
paired_types ρ (k ∷ ks) (l ∷ ls) n s = λ i. model.more (s.0 i) (paired_types ρ ks ls (omega (arith, n)) s.1 i)

as_many : (ρ : Assignment) (ks ls : List ℕ) → types_of ρ ks ≡ types_of ρ ls → length ks ≡ length ls
as_many ρ [] [] e = refl
as_many ρ [] (l ∷ ls) e = absurd cc
as_many ρ (k ∷ ks) [] e = absurd cc
as_many ρ (k ∷ ks) (l ∷ ls) e = ap suc (as_many ρ ks ls cc)

-- what two roots that meet so say of one type
abbrev Means : Node → Node → Meeting → Type 0
Means a b first = (ρ : Assignment) (i : ℕ) → Says ρ i a → Says ρ i b
Means a b second = (ρ : Assignment) (i : ℕ) → Says ρ i b → Says ρ i a
Means a b (parts ks ls) = (d : ℕ) × (a ≡ App d ks) × (b ≡ App d ls) × (length ks ≡ length ls)
Means a b never = (ρ : Assignment) (i : ℕ) → Says ρ i a → ¬ (Says ρ i b)

two_parameters : (m n : ℕ) (t : Truth) → nat_eq m n ≡ t → Means (Param m) (Param n) (if t then first else never)
two_parameters m n true e = λ ρ i s. s ∙ ap model.parameter (eqb-true m n e)
two_parameters m n false e = λ ρ i s r. elim (eqb_tells m n) [
  | inl p ↦ cc
  | inr p ↦ let same : model.parameter m ≡ model.parameter n = sym s ∙ r in p.1 cc
]

two_applied : (d : ℕ) (ks : List ℕ) (e : ℕ) (ls : List ℕ) (p q : Truth) → nat_eq d e ≡ p → nat_eq (length ks) (length ls) ≡ q →
    Means (App d ks) (App e ls) (if p then (if q then parts ks ls else never) else never)
two_applied d ks e ls true true h k = (d, refl, ap (λ n. App n ls) (sym (eqb-true d e h)), eqb-true (length ks) (length ls) k)
two_applied d ks e ls true false h k = λ ρ i s r.
    let same : model.applied d (types_of ρ ks) ≡ model.applied e (types_of ρ ls) = sym s ∙ r in
    let n : length ks ≡ length ls = as_many ρ ks ls cc in
    elim (eqb_tells (length ks) (length ls)) [ inl p ↦ cc | inr p ↦ p.1 n ]
two_applied d ks e ls false q h k = λ ρ i s r.
    let same : model.applied d (types_of ρ ks) ≡ model.applied e (types_of ρ ls) = sym s ∙ r in
    elim (eqb_tells d e) [ inl p ↦ cc | inr p ↦ p.1 cc ]

clashes : {x y z : model.Ty} → x ≡ y → x ≡ z → y ≡ z
clashes e f = sym e ∙ f

meets : (a b : Node) → IsRoot a → IsRoot b → Means a b (meet a b)
meets (Link k) b r s = absurd r
meets a (Link k) r s = absurd s
meets Open b r s = λ ρ i h. tt
meets Nat Open r s = λ ρ i h. tt
meets Bool Open r s = λ ρ i h. tt
meets (Param m) Open r s = λ ρ i h. tt
meets (App d ks) Open r s = λ ρ i h. tt
meets Nat Nat r s = λ ρ i h. h
meets Bool Bool r s = λ ρ i h. h
meets (Param m) (Param n) r s = two_parameters m n (nat_eq m n) refl
meets (App d ks) (App e ls) r s = two_applied d ks e ls (nat_eq d e) (nat_eq (length ks) (length ls)) refl refl
meets Nat Bool r s = λ ρ i h k. let e = clashes h k in cc
meets Nat (Param n) r s = λ ρ i h k. let e = clashes h k in cc
meets Nat (App d ks) r s = λ ρ i h k. let e = clashes h k in cc
meets Bool Nat r s = λ ρ i h k. let e = clashes h k in cc
meets Bool (Param n) r s = λ ρ i h k. let e = clashes h k in cc
meets Bool (App d ks) r s = λ ρ i h k. let e = clashes h k in cc
meets (Param m) Nat r s = λ ρ i h k. let e = clashes h k in cc
meets (Param m) Bool r s = λ ρ i h k. let e = clashes h k in cc
meets (Param m) (App d ks) r s = λ ρ i h k. let e = clashes h k in cc
meets (App d ks) Nat r s = λ ρ i h k. let e = clashes h k in cc
meets (App d ks) Bool r s = λ ρ i h k. let e = clashes h k in cc
meets (App d ks) (Param n) r s = λ ρ i h k. let e = clashes h k in cc

pub root_weight : (n : Node) → IsRoot n → 1 ≤ weight n
root_weight Open r = omega arith
root_weight (Link k) r = absurd r
root_weight Nat r = omega arith
root_weight Bool r = omega arith
root_weight (Param m) r = omega arith
root_weight (App d ks) r = omega arith

-- the roots `a` at `low` and `b` at `high` of a table, and the pairs that are still to be united
module _ (ns : List Node) (work : List (ℕ × ℕ)) (low high : ℕ) (t : IsNodeTable ns) (pairs : PairsBelow (length ns) work)
    (order : low < high) (inside : high < length ns) (a b : Node) (read_a : a ≡ get_or ns low a) (read_b : b ≡ get_or ns high b)
    (root_low : IsRoot (node_at ns low)) (root_high : IsRoot (node_at ns high)) where
  inside_low : low < length ns
  inside_low = omega arith

  is_a : a ≡ node_at ns low
  is_a = get_or_read ns low a inside_low read_a Open

  is_b : b ≡ node_at ns high
  is_b = get_or_read ns high b inside read_b Open

  root_a : IsRoot a
  root_a = subst IsRoot (sym is_a) root_low

  root_b : IsRoot b
  root_b = subst IsRoot (sym is_b) root_high

  low_apart : low ≢ high
  low_apart e = omega (arith, e)

  high_apart : high ≢ low
  high_apart e = omega (arith, e)

  met : {m : Meeting} → m ≡ meet a b → Means a b m
  met e = subst (Means a b) (sym e) (meets a b root_a root_b)

  linked : List Node
  linked = set ns high (Link low)

  weight_linked : weights linked + weight b ≡ weights ns
  unfolding linked
  weight_linked = let e = weights_set ns high (Link low) inside in let f : weight b ≡ weight (node_at ns high) = ap weight is_b in omega arith

  linked_table : IsNodeTable linked
  unfolding linked
  linked_table = table_set high (Link low) t order

  -- the assignments that fit where `high` is a link to `low`
  unlinked : (ρ : Assignment) → Fits ρ linked → ((Says ρ low a) → (Says ρ low b)) → Fits ρ ns × (ρ low ≡ ρ high)
  unfolding linked
  unlinked ρ f m =
      let same : ρ high ≡ ρ low = fits_here ns high (Link low) f inside in
      let s : Says ρ low a = subst (Says ρ low) (sym is_a) (fits_other ns high low (Link low) f inside_low low_apart) in
      (fits_unset ns high (Link low) f (subst (Says ρ high) is_b (says_at ρ low high b (sym same) (m s))), sym same)

  relinked : (ρ : Assignment) → Fits ρ ns → ρ low ≡ ρ high → Fits ρ linked
  unfolding linked
  relinked ρ f e = set_fits high (Link low) f (sym e)

  both : (ρ : Assignment) → Fits ρ ns → ρ low ≡ ρ high → Says ρ low a × Says ρ low b
  both ρ f e = (subst (Says ρ low) (sym is_a) (f.at low inside_low), says_at ρ high low b (sym e) (subst (Says ρ high) (sym is_b) (f.at high inside)))

  pub first_carries : first ≡ meet a b → Carries ns (work ++ (low, high) ∷ []) (set ns high (Link low)) work
  unfolding linked
  first_carries e = record {
    table = linked_table;
    long = length-set ns high (Link low);
    below = pairs;
    same = λ ρ. (
      λ p. let q = unlinked ρ p.0 (met e ρ low) in (q.0, append_same ρ work ((low, high) ∷ []) p.1 (q.1, tt)),
      λ p. let q = same_append ρ work ((low, high) ∷ []) p.1 in (relinked ρ p.0 q.1.0, q.0),
    );
  }

  pub first_weights : weights (set ns high (Link low)) + length work ≤ weights ns + length work
  unfolding linked
  first_weights = let e = weight_linked in omega arith

  pub second_carries : second ≡ meet a b → Carries ns (work ++ (low, high) ∷ []) (set (set ns high (Link low)) low b) work
  unfolding linked
  second_carries e = record {
    table = table_set low b linked_table
        (subst (λ n. Names n low b) (sym (length-set ns high (Link low))) (names_root (length ns) high low b root_b (subst (Names (length ns) high) (sym is_b) (t.at high inside))));
    long = length-set linked low b ∙ length-set ns high (Link low);
    below = pairs;
    same = λ ρ. (
      λ p.
          let within : low < length linked = omega (arith, inside_low, length-set ns high (Link low)) in
          let s : Says ρ low b = fits_here linked low b p.0 within in
          let there : node_at linked low ≡ node_at ns low = node_other ns high low (Link low) low_apart in
          let f : Fits ρ linked = fits_unset linked low b p.0 (subst (Says ρ low) (is_a ∙ sym there) (met e ρ low s)) in
          let q = unlinked ρ f (λ h. s) in (q.0, append_same ρ work ((low, high) ∷ []) p.1 (q.1, tt)),
      λ p.
          let q = same_append ρ work ((low, high) ∷ []) p.1 in
          (set_fits low b (relinked ρ p.0 q.1.0) (both ρ p.0 q.1.0).1, q.0),
    );
  }

  pub second_weights : second ≡ meet a b → weights (set (set ns high (Link low)) low b) ≤ weights ns
  unfolding linked
  second_weights e =
      let within : low < length linked = omega (arith, inside_low, length-set ns high (Link low)) in
      let f = weight_linked in let g = weights_set linked low b within in omega arith

  -- as the program writes it
  pub second_written : (link node d : Node) → link ≡ Link low → node ≡ get_or ns high d → second ≡ meet a b →
      Carries ns (work ++ (low, high) ∷ []) (set (set ns high link) low node) work
  second_written link node d e f m =
      let g : node ≡ b = f ∙ sym (get_or_read ns high b inside read_b d) in
      subst (λ n. Carries ns (work ++ (low, high) ∷ []) (set (set ns high link) low n) work) (sym g)
      (subst (λ n. Carries ns (work ++ (low, high) ∷ []) (set (set ns high n) low b) work) (sym e) (second_carries m))

  pub second_written_weights : (link node d : Node) → link ≡ Link low → node ≡ get_or ns high d → second ≡ meet a b →
      weights (set (set ns high link) low node) + length work ≤ weights ns + length work
  second_written_weights link node d e f m =
      let g : node ≡ b = f ∙ sym (get_or_read ns high b inside read_b d) in
      let w : weights (set (set ns high link) low node) ≡ weights (set (set ns high (Link low)) low b) = λ i. weights (set (set ns high (e i)) low (g i)) in
      let h = second_weights m in omega arith

  pub parts_carries : (ks ls : List ℕ) → parts ks ls ≡ meet a b → Carries ns (work ++ (low, high) ∷ []) (set ns high (Link low)) (work ++ paired ks ls)
  unfolding linked
  parts_carries ks ls e =
      let m = met e in
      let names : AreBelow (length ns) ks = subst (Names (length ns) low) (sym is_a ∙ m.1) (t.at low inside_low) in
      let others : AreBelow (length ns) ls = subst (Names (length ns) high) (sym is_b ∙ m.2) (t.at high inside) in
      record {
        table = linked_table;
        long = length-set ns high (Link low);
        below = below_append (length ns) work (paired ks ls) pairs (paired_below (length ns) ks ls names others);
        same = λ ρ. (
          λ p.
              let r = same_append ρ work (paired ks ls) p.1 in
              let q = unlinked ρ p.0 (λ s. subst (Says ρ low) (sym m.2)
              (subst (Says ρ low) m.1 s ∙ ap (model.applied m.0) (paired_types ρ ks ls m.3 r.1))) in
              (q.0, append_same ρ work ((low, high) ∷ []) r.0 (q.1, tt)),
          λ p.
              let q = same_append ρ work ((low, high) ∷ []) p.1 in
              let s = both ρ p.0 q.1.0 in
              let x : ρ low ≡ model.applied m.0 (types_of ρ ks) = subst (Says ρ low) m.1 s.0 in
              let y : ρ low ≡ model.applied m.0 (types_of ρ ls) = subst (Says ρ low) m.2 s.1 in
              let z : model.applied m.0 (types_of ρ ks) ≡ model.applied m.0 (types_of ρ ls) = sym x ∙ y in
              (relinked ρ p.0 q.1.0, append_same ρ work (paired ks ls) q.0 (types_paired ρ ks ls cc)),
        );
      }

  pub parts_weights : (ks ls : List ℕ) → parts ks ls ≡ meet a b → weights (set ns high (Link low)) + length (work ++ paired ks ls) ≤ weights ns + length work
  unfolding linked
  parts_weights ks ls e =
      let m = met e in
      let f = weight_linked in
      let g : weight b ≡ suc (length ls) = ap weight m.2 in
      let k = paired_length ks ls m.3 in
      let n = length-append work (paired ks ls) in omega arith

  pub none_meets : never ≡ meet a b → NoneFits ns (work ++ (low, high) ∷ [])
  none_meets e = λ ρ f p. let q = same_append ρ work ((low, high) ∷ []) p in let s = both ρ f q.1.0 in met e ρ low s.0 s.1
