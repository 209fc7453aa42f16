-- The measures of a term from those of the terms below its root.
use Rattle.std.proofs.Common.{ℕ, suc, ◌≡◌, ◌≤◌, ◌+◌, ◌-◌, max, List, [], ◌∷◌, length, drop, Some, refl, ap, sym, arith, add-one}
use Rattle.std.proofs.lemmas.List.{drop_all}
use Rattle.std.specs.Prelude.{slice_get}
use Rattle.tg_model.specs.Tree as model
use Rattle.tg_model.specs.Tree.{Tree, Trees, Arms, bound, free, literal, truth, con, call, put, choice, case, bind, op}
use Rattle.tg_term.specs.Measures.{nodes, nodes_of, nodes_within, height, heights, heights_within, loose_range, loose_among, loose_within, own_range, counted, measures, raised, joined}
use Rattle.tg_term.specs.FormulaMeasures.{formula_measures}
use Rattle.tg_model.specs.Types.{Ty}
use Rattle.tg_model.specs.Formula.{Formula, atom, both, implies, all, some, thyp}
use Rattle.tg_term.specs.declared.measuring.Measures.{Measures}
use Rattle.tg_term.specs.Parts.{Part, plain, bodies, parts}
use Rattle.tg_term.proofs.PartLaws.{drop_at}

same : (m n h g l r : ℕ) → m ≡ n → h ≡ g → l ≡ r
    → ◌≡◌ {A = Measures} (record { nodes = m; height = h; loose_range = l }) (record { nodes = n; height = g; loose_range = r })
same m n h g l r a b c = λ i. record { nodes = a i; height = b i; loose_range = c i }

abbrev pub total : List Part → ℕ
total [] = 0
total (p ∷ ps) = nodes p.term + total ps

abbrev pub highest : List Part → ℕ
highest [] = 0
highest (p ∷ ps) = max (height p.term + 1) (highest ps)

abbrev pub loosest : List Part → ℕ
loosest [] = 0
loosest (p ∷ ps) = max (loose_range p.term - p.vars) (loosest ps)

total_plain : (ts : Trees) → total (plain ts) ≡ nodes_of ts
total_plain model.none = refl
total_plain (model.more t ts) = ap (λ n. nodes t + n) (total_plain ts)

total_bodies : (bs : Arms) → total (bodies bs) ≡ nodes_within bs
total_bodies model.end = refl
total_bodies (model.arm n t bs) = ap (λ n. nodes t + n) (total_bodies bs)

pub nodes_are : (t : Tree) → nodes t ≡ 1 + total (parts t)
nodes_are (bound k) = refl
nodes_are (free n) = refl
nodes_are (literal n) = refl
nodes_are (truth b) = refl
nodes_are (con c ts) = ap (λ n. 1 + n) (sym (total_plain ts))
nodes_are (call f ts) = ap (λ n. 1 + n) (sym (total_plain ts))
nodes_are (put ts) = ap (λ n. 1 + n) (sym (total_plain ts))
nodes_are (choice ts) = ap (λ n. 1 + n) (sym (total_plain ts))
nodes_are (case d t bs) = ap (λ n. 1 + (nodes t + n)) (sym (total_bodies bs))
nodes_are (bind t body) = omega arith
nodes_are (op o ts) = ap (λ n. 1 + n) (sym (total_plain ts))

highest_plain : (ts : Trees) → highest (plain ts) ≡ heights ts
highest_plain model.none = refl
highest_plain (model.more t ts) = ap (λ n. max (height t + 1) n) (highest_plain ts)

highest_bodies : (bs : Arms) → highest (bodies bs) ≡ heights_within bs
highest_bodies model.end = refl
highest_bodies (model.arm n t bs) = ap (λ n. max (height t + 1) n) (highest_bodies bs)

pub height_is : (t : Tree) → height t ≡ highest (parts t)
height_is (bound k) = refl
height_is (free n) = refl
height_is (literal n) = refl
height_is (truth b) = refl
height_is (con c ts) = sym (highest_plain ts)
height_is (call f ts) = sym (highest_plain ts)
height_is (put ts) = sym (highest_plain ts)
height_is (choice ts) = sym (highest_plain ts)
height_is (case d t bs) = ap (λ n. max (height t + 1) n) (sym (highest_bodies bs))
height_is (bind t body) = omega arith
height_is (op o ts) = sym (highest_plain ts)

loosest_plain : (ts : Trees) → loosest (plain ts) ≡ loose_among ts
loosest_plain model.none = refl
loosest_plain (model.more t ts) = let k = loosest_plain ts in omega arith

loosest_bodies : (bs : Arms) → loosest (bodies bs) ≡ loose_within bs
loosest_bodies model.end = refl
loosest_bodies (model.arm n t bs) = let k = loosest_bodies bs in omega arith

pub loose_is : (t : Tree) → loose_range t ≡ max (own_range t) (loosest (parts t))
loose_is (bound k) = omega arith
loose_is (free n) = refl
loose_is (literal n) = refl
loose_is (truth b) = refl
loose_is (con c ts) = let k = loosest_plain ts in omega arith
loose_is (call f ts) = let k = loosest_plain ts in omega arith
loose_is (put ts) = let k = loosest_plain ts in omega arith
loose_is (choice ts) = let k = loosest_plain ts in omega arith
loose_is (case d t bs) = let k = loosest_bodies bs in omega arith
loose_is (bind t body) = omega arith
loose_is (op o ts) = let k = loosest_plain ts in omega arith

-- what is kept of the parts from a place on: the three measures so far lead to those of the term
pub record Leads (t : Tree) (i n h l : ℕ) : Type 0 where
  pub stops : counted n ≡ n
  pub nodes : counted (n + total (drop i (parts t))) ≡ counted (nodes t)
  pub height : max h (highest (drop i (parts t))) ≡ height t
  pub loose : max l (loosest (drop i (parts t))) ≡ loose_range t

pub leads_first : (t : Tree) → Leads t 0 1 0 (own_range t)
leads_first t =
    record {
      stops = refl;
      nodes = ap counted (sym (nodes_are t));
      height = let k = height_is t in omega arith;
      loose = sym (loose_is t);
    }

leads_next : (t : Tree) (i n h l : ℕ) (p : Part) → slice_get (parts t) i ≡ Some p → Leads t i n h l
    → Leads t (suc i) (counted (n + counted (nodes p.term))) (max h (height p.term + 1)) (max l (loose_range p.term - p.vars))
leads_next t i n h l p e k =
    let d = drop_at (parts t) i p e in
    let a : total (drop i (parts t)) ≡ nodes p.term + total (drop (suc i) (parts t)) = ap total d in
    let b : highest (drop i (parts t)) ≡ max (height p.term + 1) (highest (drop (suc i) (parts t))) = ap highest d in
    let c : loosest (drop i (parts t)) ≡ max (loose_range p.term - p.vars) (loosest (drop (suc i) (parts t))) = ap loosest d in
    let x = k.nodes in let y = k.height in let z = k.loose in
    record { stops = omega arith; nodes = omega arith; height = omega arith; loose = omega arith }

pub leads_on : (t : Tree) (i n h l m g r : ℕ) (p : Part) → slice_get (parts t) i ≡ Some p → Leads t i n h l
    → m ≡ counted (n + counted (nodes p.term)) → g ≡ max h (height p.term + 1) → r ≡ max l (loose_range p.term - p.vars) → Leads t (i + 1) m g r
leads_on t i n h l m g r p e k a b c = rw (add-one i, a, b, c) (leads_next t i n h l p e k)

pub leads_end : (t : Tree) (i n h l : ℕ) → length (parts t) ≤ i → Leads t i n h l
    → ◌≡◌ {A = Measures} (record { nodes = n; height = h; loose_range = l }) (measures t)
leads_end t i n h l past k =
    let e : drop i (parts t) ≡ [] = drop_all i (parts t) past in
    let a : n ≡ counted (nodes t) = let x = k.nodes in let w = k.stops in let y : total (drop i (parts t)) ≡ 0 = ap total e in omega arith in
    let b : h ≡ height t = let x = k.height in let y : highest (drop i (parts t)) ≡ 0 = ap highest e in omega arith in
    let c : l ≡ loose_range t = let x = k.loose in let y : loosest (drop i (parts t)) ≡ 0 = ap loosest e in omega arith in
    λ j. record { nodes = a j; height = b j; loose_range = c j }

-- the measures of a formula's node
pub atom_measures : (t : Tree) → raised (measures t) 0 ≡ formula_measures (atom t)
atom_measures t = same _ _ _ _ _ _ (omega arith) refl (omega arith)

pub thyp_measures : (f : Formula) → raised (formula_measures f) 0 ≡ formula_measures (thyp f)
thyp_measures f = same _ _ _ _ _ _ (omega arith) refl (omega arith)

pub all_measures : (t : Ty) (f : Formula) → raised (formula_measures f) 1 ≡ formula_measures (all t f)
all_measures t f = same _ _ _ _ _ _ (omega arith) refl refl

pub some_measures : (t : Ty) (f : Formula) → raised (formula_measures f) 1 ≡ formula_measures (some t f)
some_measures t f = same _ _ _ _ _ _ (omega arith) refl refl

pub both_measures : (f g : Formula) → joined (formula_measures f) (formula_measures g) ≡ formula_measures (both f g)
both_measures f g = same _ _ _ _ _ _ (omega arith) refl refl

pub implies_measures : (f g : Formula) → joined (formula_measures f) (formula_measures g) ≡ formula_measures (implies f g)
implies_measures f g = same _ _ _ _ _ _ (omega arith) refl refl

pub ruleset joining = (atom_measures, thyp_measures, all_measures, some_measures, both_measures, implies_measures)

pub ruleset measuring = (leads_first)
