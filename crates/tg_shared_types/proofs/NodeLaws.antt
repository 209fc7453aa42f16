-- Laws of tables, and of one node that is written.
use Rattle.std.proofs.Common.{ℕ, zero, suc, ◌≡◌, ◌+◌, ◌<◌, ◌≤◌, List, [], ◌∷◌, ◌++◌, length, get_or, set, refl, ap, sym, ◌∙◌, subst, arith, inl, inr}
use Rattle.std.specs.Prelude.{◌≢◌}
use Rattle.std.proofs.lemmas.Bool.Decides.{eqb_tells}
use Rattle.std.proofs.lemmas.List.{get_or-set_same, get_or-set_other, length-set, get_or_read}
use Rattle.tg_types.specs.Substitutions.{Assignment}
use Rattle.tg_shared_types.specs.declared.nodes.Node.{Node}
use Rattle.tg_shared_types.specs.declared.nodes.Node.TheVariants.{Open, Link, Nat, Bool, Param, App}
use Rattle.tg_shared_types.specs.Nodes.{Says, node_at, Fits, AreBelow, Names, IsNodeTable, IsRoot, SameFits, HasTypeOf, KeepsRoots}
use Rattle.tg_shared_types.specs.Pairs.{weight, weights}

-- what a node says depends on its type alone
pub says_at : (ρ : Assignment) (i j : ℕ) (n : Node) → ρ i ≡ ρ j → Says ρ i n → Says ρ j n
says_at ρ i j Open e s = tt
says_at ρ i j (Link k) e s = sym e ∙ s
says_at ρ i j Nat e s = sym e ∙ s
says_at ρ i j Bool e s = sym e ∙ s
says_at ρ i j (Param n) e s = sym e ∙ s
says_at ρ i j (App d ks) e s = sym e ∙ s

pub names_root : (n i j : ℕ) (node : Node) → IsRoot node → Names n i node → Names n j node
names_root n i j Open r s = tt
names_root n i j (Link k) r s = absurd r
names_root n i j Nat r s = tt
names_root n i j Bool r s = tt
names_root n i j (Param m) r s = tt
names_root n i j (App d ks) r s = s

-- a node after a write
pub node_here : (ns : List Node) (i : ℕ) (n : Node) → i < length ns → node_at (set ns i n) i ≡ n
node_here ns i n h = get_or-set_same ns i n Open h

pub node_other : (ns : List Node) (i j : ℕ) (n : Node) → j ≢ i → node_at (set ns i n) j ≡ node_at ns j
node_other ns i j n d = get_or-set_other ns i j n Open d

pub set_fits : {ρ : Assignment} {ns : List Node} (i : ℕ) (n : Node) → Fits ρ ns → Says ρ i n → Fits ρ (set ns i n)
set_fits {ρ} {ns} i n f s = record {
  at = λ j h.
      let k : j < length ns = omega (arith, h, length-set ns i n) in
      elim (eqb_tells j i) [
        | inl p ↦
            subst (λ x. Says ρ x (node_at (set ns i n) x)) (sym p.1)
            (subst (Says ρ i) (sym (node_here ns i n (subst (λ x. x < length ns) p.1 k))) s)
        | inr p ↦ subst (Says ρ j) (sym (node_other ns i j n p.1)) (f.at j k)
      ];
}

pub fits_here : {ρ : Assignment} (ns : List Node) (i : ℕ) (n : Node) → Fits ρ (set ns i n) → i < length ns → Says ρ i n
fits_here {ρ} ns i n f h = subst (Says ρ i) (node_here ns i n h) (f.at i (omega (arith, h, length-set ns i n)))

pub fits_other : {ρ : Assignment} (ns : List Node) (i j : ℕ) (n : Node) → Fits ρ (set ns i n) → j < length ns → j ≢ i → Says ρ j (node_at ns j)
fits_other {ρ} ns i j n f h d = subst (Says ρ j) (node_other ns i j n d) (f.at j (omega (arith, h, length-set ns i n)))

pub fits_unset : {ρ : Assignment} (ns : List Node) (i : ℕ) (n : Node) → Fits ρ (set ns i n) → Says ρ i (node_at ns i) → Fits ρ ns
fits_unset {ρ} ns i n f s = record {
  at = λ j h. elim (eqb_tells j i) [
    | inl p ↦ subst (λ x. Says ρ x (node_at ns x)) (sym p.1) s
    | inr p ↦ fits_other ns i j n f h p.1
  ];
}

pub table_set : {ns : List Node} (i : ℕ) (n : Node) → IsNodeTable ns → Names (length ns) i n → IsNodeTable (set ns i n)
table_set {ns} i n t s = record {
  at = λ j h.
      let e : length (set ns i n) ≡ length ns = length-set ns i n in
      let k : j < length ns = omega (arith, h, e) in
      subst (λ m. Names m j (node_at (set ns i n) j)) (sym e) (elim (eqb_tells j i) [
        | inl p ↦
            subst (λ x. Names (length ns) x (node_at (set ns i n) x)) (sym p.1)
            (subst (Names (length ns) i) (sym (node_here ns i n (subst (λ x. x < length ns) p.1 k))) s)
        | inr p ↦ subst (Names (length ns) j) (sym (node_other ns i j n p.1)) (t.at j k)
      ]);
}

pub weights_set : (ns : List Node) (i : ℕ) (n : Node) → i < length ns → weights (set ns i n) + weight (node_at ns i) ≡ weights ns + weight n
weights_set [] i n h = absurd (omega (arith, h))
weights_set (x ∷ ns) zero n h = omega arith
weights_set (x ∷ ns) (suc i) n h = let k : i < length ns = omega (arith, h) in let e = weights_set ns i n k in omega arith

pub same_itself : {ns : List Node} → IsNodeTable ns → SameFits ns ns
same_itself t = record { table = t; long = refl; same = λ ρ. (λ f. f, λ f. f) }

pub same_then : {old mid new : List Node} → SameFits old mid → SameFits mid new → SameFits old new
same_then a b = record {
  table = b.table;
  long = b.long ∙ a.long;
  same = λ ρ. (λ f. (a.same ρ).0 ((b.same ρ).0 f), λ f. (b.same ρ).1 ((a.same ρ).1 f));
}

-- what a table says of a link
pub link_falls : {ns : List Node} (i k : ℕ) → IsNodeTable ns → i < length ns → node_at ns i ≡ Link k → k < i
link_falls {ns} i k t h e = subst (Names (length ns) i) e (t.at i h)

pub link_same : {ρ : Assignment} {ns : List Node} (i k : ℕ) → Fits ρ ns → i < length ns → node_at ns i ≡ Link k → ρ i ≡ ρ k
link_same {ρ} {ns} i k f h e = subst (Says ρ i) e (f.at i h)

pub link_on : {old ns : List Node} (at i k : ℕ) → SameFits old ns → HasTypeOf old at i → i < length ns → node_at ns i ≡ Link k → HasTypeOf old at k
link_on at i k s t h e = λ ρ f. t ρ f ∙ link_same i k ((s.same ρ).1 f) h e

-- a link made to lead past another link
module _ (ns : List Node) (i k far : ℕ) (t : IsNodeTable ns) (h : i < length ns) (e : node_at ns i ≡ Link k)
    (r : Node) (read : r ≡ get_or ns k r) (is_far : get_or ns k r ≡ Link far) where
  falls : k < i
  falls = link_falls i k t h e

  inside : k < length ns
  inside = let a = falls in omega arith

  f : node_at ns k ≡ Link far
  f = sym (get_or_read ns k r inside read Open) ∙ read ∙ is_far

  apart : k ≢ i
  apart q = let a = falls in omega (arith, q)

  pub halved : SameFits ns (set ns i (Link far))
  halved = record {
    table = table_set i (Link far) t (let a = falls in let b : far < k = link_falls k far t inside f in omega arith);
    long = length-set ns i (Link far);
    same = λ ρ. (
      λ g.
          let here : ρ i ≡ ρ far = fits_here ns i (Link far) g h in
          let next : ρ k ≡ ρ far = subst (Says ρ k) f (fits_other ns i k (Link far) g inside apart) in
          fits_unset ns i (Link far) g (subst (Says ρ i) (sym e) (here ∙ sym next)),
      λ g. set_fits i (Link far) g (link_same i k g h e ∙ link_same k far g inside f),
    );
  }

  pub halved_weights : weights (set ns i (Link far)) ≡ weights ns
  halved_weights = let a = weights_set ns i (Link far) h in let b : weight (node_at ns i) ≡ 0 = ap weight e in omega arith

  pub halved_roots : KeepsRoots ns (set ns i (Link far))
  halved_roots j r = elim (eqb_tells j i) [
    | inl p ↦ absurd (subst IsRoot (ap (node_at ns) p.1 ∙ e) r)
    | inr p ↦ subst IsRoot (sym (node_other ns i j (Link far) p.1)) r
  ]

below_more : (m n : ℕ) (ks : List ℕ) → m ≤ n → AreBelow m ks → AreBelow n ks
below_more m n [] h b = tt
below_more m n (k ∷ ks) h b = (omega (arith, b.0), below_more m n ks h b.1)

names_more : (m n i : ℕ) (node : Node) → m ≤ n → Names m i node → Names n i node
names_more m n i Open h s = tt
names_more m n i (Link k) h s = s
names_more m n i Nat h s = tt
names_more m n i Bool h s = tt
names_more m n i (Param x) h s = tt
names_more m n i (App d ks) h s = below_more m n ks h s

pub pushed_old : (ns : List Node) (n : Node) (i : ℕ) → i < length ns → node_at (ns ++ n ∷ []) i ≡ node_at ns i
pushed_old [] n i h = absurd (omega (arith, h))
pushed_old (x ∷ ns) n zero h = refl
pushed_old (x ∷ ns) n (suc i) h = pushed_old ns n i (omega (arith, h))

pub pushed_new : (ns : List Node) (n : Node) → node_at (ns ++ n ∷ []) (length ns) ≡ n
pushed_new [] n = refl
pushed_new (x ∷ ns) n = pushed_new ns n

pub pushed_length : (ns : List Node) (n : Node) → length (ns ++ n ∷ []) ≡ suc (length ns)
pushed_length [] n = refl
pushed_length (x ∷ ns) n = ap suc (pushed_length ns n)

pub table_pushed : {ns : List Node} (n : Node) → IsNodeTable ns → Names (length ns) (length ns) n → IsNodeTable (ns ++ n ∷ [])
table_pushed {ns} n t s = record {
  at = λ i h.
      let l : length (ns ++ n ∷ []) ≡ suc (length ns) = pushed_length ns n in
      let m : length ns ≤ length (ns ++ n ∷ []) = omega (arith, l) in
      elim (eqb_tells i (length ns)) [
        | inl p ↦
            subst (λ x. Names (length (ns ++ n ∷ [])) x (node_at (ns ++ n ∷ []) x)) (sym p.1)
            (subst (Names (length (ns ++ n ∷ [])) (length ns)) (sym (pushed_new ns n)) (names_more (length ns) (length (ns ++ n ∷ [])) (length ns) n m s))
        | inr p ↦
            let k : i < length ns = omega (arith, h, l, p.1) in
            subst (Names (length (ns ++ n ∷ [])) i) (sym (pushed_old ns n i k)) (names_more (length ns) (length (ns ++ n ∷ [])) i (node_at ns i) m (t.at i k))
      ];
}
