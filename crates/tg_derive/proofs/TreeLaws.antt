-- The clauses that the work finds are those of the leaves of split trees.
use Rattle.std.proofs.Common.{◌≡◌, true, false, List, [], ◌∷◌, ◌++◌, map, Some, None, refl, ap, sym, ◌∙◌, append_assoc}
use Rattle.std.specs.List.{flat_map}
use Rattle.std.proofs.lemmas.List.{append-nil, map-append}
use Rattle.tg_model.specs.Tree.{Tree, op, two, implication}
use Rattle.tg_model.specs.Theory.{Theory}
use Rattle.tg_rows.specs.Rows.{denied}
use Rattle.tg_norm.specs.Normal.{Walked, Norm}
use Rattle.tg_norm.specs.Halves.{condition_of}
use Rattle.tg_norm.specs.Splits as splits
use Rattle.tg_norm.specs.Splits.{Splits, inner, implied, IsForm}
use Rattle.tg_clause.specs.Clauses.{Clause, clauses_of}
use Rattle.tg_hyps.specs.Hypotheses.{Class}
use Rattle.tg_split.specs.Patterns.{Pattern, patterns}
use Rattle.tg_derive.specs.declared.budgets.Left.{Left}
use Rattle.tg_derive.specs.Goals.{Goal, start, child, under}
use Rattle.tg_derive.specs.Work as work
use Rattle.tg_derive.specs.Work.{Worked, done, passed, before, Work, leaf}
use Rattle.tg_derive.specs.Classes as classes
use Rattle.tg_derive.specs.Classes.{WorkAt, passed_first, after_first, classes_of, Derived, too_many, worked}
use Rattle.tg_derive.specs.Trees.{AreClassesAt, AreClassesOf}
use Rattle.tg_derive.specs.Laws.{ClassesAreOfTrees}

pub data AreLeaves (th : Theory) : List Goal → List Tree → Type 0 where
  of_none : {ls : List Tree} → ls ≡ [] → AreLeaves th [] ls
  of_more : {g : Goal} {gs : List Goal} {ls : List Tree} (form : Tree) (ms ns : List Tree) → IsForm th g.term form → Splits (IsForm th) form ms
      → AreLeaves th gs ns → ls ≡ map (under g.conditions) ms ++ ns → AreLeaves th (g ∷ gs) ls

under_last : (qs : List Tree) (q t : Tree) → under (qs ++ q ∷ []) t ≡ under qs (implied q t)
under_last [] q t = refl
under_last (r ∷ qs) q t = ap (λ u. op implication (two r u)) (under_last qs q t)

all_under : (qs : List Tree) (q : Tree) (ms : List Tree) → map (under (qs ++ q ∷ [])) ms ≡ map (under qs) (map (implied q) ms)
all_under qs q [] = refl
all_under qs q (m ∷ ms) = λ i. under_last qs q m i ∷ all_under qs q ms i

module _ (th : Theory) where
  joined : (g : Goal) (gs : List Goal) (w : Walked) (q : Tree) (ls : List Tree) → Norm th g.term w → condition_of w.form ≡ Some q
      → AreLeaves th (child g w.form q true ∷ child g w.form q false ∷ gs) ls → AreLeaves th (g ∷ gs) ls
  joined g gs w q ls n c (of_more u ms rest f s (of_more v ns more h t r i) e) =
      of_more w.form (map (implied q) ms ++ map (implied (denied q)) ns) more (w, n, refl) (inner q u v ms ns c f h s t refl) r
      (e ∙ (λ k. all_under g.conditions q ms k ++ i k) ∙ ap (λ l. map (under g.conditions) (map (implied q) ms) ++ (l ++ more)) (all_under g.conditions (denied q) ns)
      ∙ sym (append_assoc (map (under g.conditions) (map (implied q) ms)) (map (under g.conditions) (map (implied (denied q)) ns)) more)
      ∙ ap (λ l. l ++ more) (sym (map-append (under g.conditions) (map (implied q) ms) (map (implied (denied q)) ns))))

  -- with what the leaves of the goals are
  abbrev pub Found : List Goal → List Clause → Type 0
  Found gs cs = (ls : List Tree) × AreLeaves th gs ls × (cs ≡ flat_map clauses_of ls)

  at_rest : (g : Goal) (gs : List Goal) (w : Walked) (ds es : List Clause) → Norm th g.term w → condition_of w.form ≡ None → Found gs ds
      → es ≡ clauses_of (leaf g w) ++ ds → Found (g ∷ gs) es
  at_rest g gs w ds es n c f e =
      (leaf g w ∷ f.0, of_more w.form (w.form ∷ []) f.0 (w, n, refl) (splits.leaf c refl) f.1 refl, e ∙ ap (λ l. clauses_of (leaf g w) ++ l) f.2)

  found_none : (cs : List Clause) → cs ≡ [] → Found [] cs
  found_none cs e = ([], of_none refl, e)

  abbrev list_of : List Clause → Worked Clause → List Clause
  list_of else (done cs b) = cs
  list_of else (passed l) = else

  pub found : (b e : Left) (gs : List Goal) (cs : List Clause) (o : Worked Clause) → Work th b gs o → o ≡ done cs e → Found gs cs
  found b e [] cs o (work.at_end i) d = found_none cs (ap (list_of cs) (sym d ∙ i))
  found b e (g ∷ gs) cs o (work.without_form n i) d = absurd (cc (sym i ∙ d))
  found b e (g ∷ gs) cs o (work.without_split w q f c z i) d = absurd (cc (sym i ∙ d))
  found b e (g ∷ gs) cs o (work.at_split w q f c z k) d =
      let h : Found (child g w.form q true ∷ child g w.form q false ∷ gs) cs = found (work.after_split (work.after_walk b w)) e (child g w.form q true ∷ child g w.form q false ∷ gs) cs o k d in
      (h.0, joined g gs w q h.0 f.walk c h.1, h.2)
  found b e (g ∷ gs) cs o (work.without_clauses w f c r i) d = absurd (cc (sym i ∙ d))
  found b e (g ∷ gs) cs o (work.at_leaf w (passed l) f c r k i) d = absurd (cc (sym i ∙ d))
  found b e (g ∷ gs) cs o (work.at_leaf w (done ds a) f c r k i) d =
      at_rest g gs w ds cs f.walk c (found (work.after_clauses (work.after_walk b w) (leaf g w)) a gs ds (done ds a) k refl) (ap (list_of cs) (sym d ∙ i))

  map_same : (ls : List Tree) → map (under []) ls ≡ ls
  map_same [] = refl
  map_same (l ∷ ls) = ap (λ r. l ∷ r) (map_same ls)

  of_start : (p : Pattern) (cs : List Clause) (ls : List Tree) → AreLeaves th (start th p ∷ []) ls → cs ≡ flat_map clauses_of ls
      → AreClassesAt th p (classes_of p cs)
  of_start p cs ls (of_more form ms ns f s (of_none i) e) c = record {
    form = form;
    leaves = ms;
    is_form = f;
    are_leaves = s;
    classes = ap (classes_of p) (c ∙ ap (flat_map clauses_of) (e ∙ ap (λ l. map (under []) ms ++ l) i ∙ append-nil (map (under []) ms) ∙ map_same ms));
  }

  abbrev class_list_of : List Class → Worked Class → List Class
  class_list_of else (done cs b) = cs
  class_list_of else (passed l) = else

  all_found : (b e : Left) (ps : List Pattern) (cs : List Class) (o : Worked Class) → WorkAt th b ps o → o ≡ done cs e → AreClassesOf th ps cs
  all_found b e [] cs o (classes.at_end i) d = ap (class_list_of cs) (sym d ∙ i)
  all_found b e (p ∷ ps) cs o (passed_first l w i) d = absurd (cc (sym i ∙ d))
  all_found b e (p ∷ ps) cs o (after_first ds on (passed l) w k i) d = absurd (cc (sym i ∙ d))
  all_found b e (p ∷ ps) cs o (after_first ds on (done rest a) w k i) d =
      let f : Found (start th p ∷ []) ds = found b on (start th p ∷ []) ds (done ds on) w refl in
      (classes_of p ds, rest, of_start p ds f.0 f.1 f.2, all_found on a ps rest (done rest a) k refl, ap (class_list_of cs) (sym d ∙ i))

pub classes_are_of_trees : ClassesAreOfTrees
classes_are_of_trees th k cs (left, too_many h e) = absurd (cc e)
classes_are_of_trees th k cs (left, worked h w) = all_found th classes.whole left (patterns th k) cs (done cs left) w refl
