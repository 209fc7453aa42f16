-- The work comes to one answer.
use Rattle.std.proofs.Common.{◌≡◌, true, false, List, [], ◌∷◌, Some, None, ap, sym, ◌∙◌, subst, arith}
use Rattle.tg_model.specs.Tree.{Tree}
use Rattle.tg_model.specs.Theory.{Theory}
use Rattle.tg_norm.specs.Normal.{Walked}
use Rattle.tg_norm.specs.Halves.{condition_of}
use Rattle.tg_norm.proofs.OneWalk.{one_walk}
use Rattle.tg_clause.specs.Clauses.{Clause, clauses_of}
use Rattle.tg_hyps.specs.Hypotheses.{Class}
use Rattle.tg_split.specs.Patterns.{Pattern, patterns}
use Rattle.tg_derive.specs.declared.budgets.Left.{Left}
use Rattle.tg_derive.specs.Goals.{Goal, start, child}
use Rattle.tg_derive.specs.Work as work
use Rattle.tg_derive.specs.Work.{Worked, done, passed, before, Work, IsFormed, has_room, leaf, after_walk, after_split, after_clauses}
use Rattle.tg_derive.specs.Classes as classes
use Rattle.tg_derive.specs.Classes.{WorkAt, passed_first, after_first, classes_of, Derived, too_many, worked}
use Rattle.tg_derive.specs.Laws.{IsOneAnswer}

module _ (th : Theory) where
  one_form : (b : Left) (g : Goal) (w v : Walked) → IsFormed th b g w → IsFormed th b g v → w ≡ v
  one_form b g w v f h = one_walk th g.term w v f.walk h.walk

  split_or_leaf : (b : Left) (g : Goal) (w v : Walked) (q : Tree) → IsFormed th b g w → IsFormed th b g v → condition_of w.form ≡ Some q
      → condition_of v.form ≡ None → ⊥
  split_or_leaf b g w v q f h e i = absurd (cc (sym e ∙ ap (λ (x : Walked). condition_of x.form) (one_form b g w v f h) ∙ i))

  room_or_none : (b : Left) (g : Goal) (w v : Walked) → IsFormed th b g w → IsFormed th b g v → has_room b (leaf g w) ≡ true
      → has_room b (leaf g v) ≡ false → ⊥
  room_or_none b g w v f h e i = absurd (cc (sym e ∙ ap (λ x. has_room b (leaf g x)) (one_form b g w v f h) ∙ i))

  same_condition : (w v : Walked) (q r : Tree) → w ≡ v → condition_of w.form ≡ Some q → condition_of v.form ≡ Some r → q ≡ r
  same_condition w v q r e c d = let s : Some q ≡ Some r = sym c ∙ ap (λ (x : Walked). condition_of x.form) e ∙ d in cc s

  pub one_work : (b : Left) (gs : List Goal) (o o' : Worked Clause) → Work th b gs o → Work th b gs o' → o ≡ o'
  one_work b [] o o' (work.at_end e) (work.at_end i) = e ∙ sym i
  one_work b (g ∷ gs) o o' (work.without_form n e) (work.without_form m i) = e ∙ sym i
  one_work b (g ∷ gs) o o' (work.without_form n e) (work.without_split w q f c z i) = absurd (n.none w f.walk f.within)
  one_work b (g ∷ gs) o o' (work.without_form n e) (work.at_split w q f c z k) = absurd (n.none w f.walk f.within)
  one_work b (g ∷ gs) o o' (work.without_form n e) (work.without_clauses w f c r i) = absurd (n.none w f.walk f.within)
  one_work b (g ∷ gs) o o' (work.without_form n e) (work.at_leaf w rest f c r k i) = absurd (n.none w f.walk f.within)
  one_work b (g ∷ gs) o o' (work.without_split w q f c z i) (work.without_form n e) = absurd (n.none w f.walk f.within)
  one_work b (g ∷ gs) o o' (work.without_split w q f c z i) (work.without_split v r h d y j) = i ∙ sym j
  one_work b (g ∷ gs) o o' (work.without_split w q f c z i) (work.at_split v r h d y k) = absurd (omega (arith, z, y))
  one_work b (g ∷ gs) o o' (work.without_split w q f c z i) (work.without_clauses v h d r j) = absurd (split_or_leaf b g w v q f h c d)
  one_work b (g ∷ gs) o o' (work.without_split w q f c z i) (work.at_leaf v rest h d r k j) = absurd (split_or_leaf b g w v q f h c d)
  one_work b (g ∷ gs) o o' (work.at_split w q f c z k) (work.without_form n e) = absurd (n.none w f.walk f.within)
  one_work b (g ∷ gs) o o' (work.at_split w q f c z k) (work.without_split v r h d y i) = absurd (omega (arith, z, y))
  one_work b (g ∷ gs) o o' (work.at_split w q f c z k) (work.at_split v r h d y l) =
      let e : w ≡ v = one_form b g w v f h in
      let s : q ≡ r = same_condition w v q r e c d in
      one_work (after_split (after_walk b w)) (child g w.form q true ∷ child g w.form q false ∷ gs) o o' k
      (subst (λ (x : Tree). Work th (after_split (after_walk b w)) (child g w.form x true ∷ child g w.form x false ∷ gs) o') (sym s)
      (subst (λ (x : Walked). Work th (after_split (after_walk b x)) (child g x.form r true ∷ child g x.form r false ∷ gs) o') (sym e) l))
  one_work b (g ∷ gs) o o' (work.at_split w q f c z k) (work.without_clauses v h d r i) = absurd (split_or_leaf b g w v q f h c d)
  one_work b (g ∷ gs) o o' (work.at_split w q f c z k) (work.at_leaf v rest h d r l i) = absurd (split_or_leaf b g w v q f h c d)
  one_work b (g ∷ gs) o o' (work.without_clauses w f c r i) (work.without_form n e) = absurd (n.none w f.walk f.within)
  one_work b (g ∷ gs) o o' (work.without_clauses w f c r i) (work.without_split v q h d y j) = absurd (split_or_leaf b g v w q h f d c)
  one_work b (g ∷ gs) o o' (work.without_clauses w f c r i) (work.at_split v q h d y k) = absurd (split_or_leaf b g v w q h f d c)
  one_work b (g ∷ gs) o o' (work.without_clauses w f c r i) (work.without_clauses v h d s j) = i ∙ sym j
  one_work b (g ∷ gs) o o' (work.without_clauses w f c r i) (work.at_leaf v rest h d s k j) = absurd (room_or_none b g v w h f s r)
  one_work b (g ∷ gs) o o' (work.at_leaf w rest f c r k i) (work.without_form n e) = absurd (n.none w f.walk f.within)
  one_work b (g ∷ gs) o o' (work.at_leaf w rest f c r k i) (work.without_split v q h d y j) = absurd (split_or_leaf b g v w q h f d c)
  one_work b (g ∷ gs) o o' (work.at_leaf w rest f c r k i) (work.at_split v q h d y l) = absurd (split_or_leaf b g v w q h f d c)
  one_work b (g ∷ gs) o o' (work.at_leaf w rest f c r k i) (work.without_clauses v h d s j) = absurd (room_or_none b g w v f h r s)
  one_work b (g ∷ gs) o o' (work.at_leaf w rest f c r k i) (work.at_leaf v more h d s l j) =
      let e : w ≡ v = one_form b g w v f h in
      let on : rest ≡ more = one_work (after_clauses (after_walk b w) (leaf g w)) gs rest more k
      (subst (λ (x : Walked). Work th (after_clauses (after_walk b x) (leaf g x)) gs more) (sym e) l) in
      i ∙ (λ n. before (clauses_of (leaf g (e n))) (on n)) ∙ sym j

  done_or_passed : {A : Type 0} (cs : List A) (b : Left) (l : work.Limit) → done cs b ≡ passed l → ⊥
  done_or_passed cs b l e = cc e

  abbrev found_of : {A : Type 0} → List A → Worked A → List A
  found_of else (done cs b) = cs
  found_of else (passed l) = else

  abbrev left_of : {A : Type 0} → Left → Worked A → Left
  left_of else (done cs b) = b
  left_of else (passed l) = else

  one_at : (b : Left) (ps : List Pattern) (o o' : Worked Class) → WorkAt th b ps o → WorkAt th b ps o' → o ≡ o'
  one_at b [] o o' (classes.at_end e) (classes.at_end i) = e ∙ sym i
  one_at b (p ∷ ps) o o' (passed_first l w e) (passed_first m v i) =
      let s : passed l ≡ passed m = one_work b (start th p ∷ []) (passed l) (passed m) w v in
      let t : l ≡ m = cc s in
      e ∙ ap passed t ∙ sym i
  one_at b (p ∷ ps) o o' (passed_first l w e) (after_first cs on rest v k i) =
      absurd (done_or_passed cs on l (one_work b (start th p ∷ []) (done cs on) (passed l) v w))
  one_at b (p ∷ ps) o o' (after_first cs on rest v k i) (passed_first l w e) =
      absurd (done_or_passed cs on l (one_work b (start th p ∷ []) (done cs on) (passed l) v w))
  one_at b (p ∷ ps) o o' (after_first cs on rest w k e) (after_first ds at more v l i) =
      let s : done cs on ≡ done ds at = one_work b (start th p ∷ []) (done cs on) (done ds at) w v in
      let to : on ≡ at = ap (left_of on) s in
      let found : cs ≡ ds = ap (found_of cs) s in
      let r : rest ≡ more = one_at on ps rest more k (subst (λ (x : Left). WorkAt th x ps more) (sym to) l) in
      e ∙ (λ n. before (classes_of p (found n)) (r n)) ∙ sym i

pub one_answer : IsOneAnswer
one_answer th k o o' (too_many h e) (too_many g i) = e ∙ sym i
one_answer th k o o' (too_many h e) (worked g w) = absurd (omega (arith, h, g))
one_answer th k o o' (worked g w) (too_many h e) = absurd (omega (arith, h, g))
one_answer th k o o' (worked g w) (worked h v) = one_at th classes.whole (patterns th k) o o' w v
