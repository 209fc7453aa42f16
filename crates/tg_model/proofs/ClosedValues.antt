-- The value of a typed term reads no loose bound variable beyond those that have a type.
use Rattle.std.proofs.Common.{ℕ, zero, suc, ◌≡◌, List, [], ◌∷◌, ◌++◌, reverse, length, Option, refl, sym, ◌∙◌, ap, nat_eq, arith, append_assoc, length-append}
use Rattle.std.specs.Prelude.{unwrap_or}
use Rattle.std.specs.Option.{option_map_or}
use Rattle.std.proofs.lemmas.Bool.{eqb-true}
use Rattle.std.proofs.lemmas.List.{length-reverse}
use Rattle.std.proofs.lemmas.Option.{slice_get_within}
use Rattle.tg_model.specs.Tree as tree
use Rattle.tg_model.specs.Tree.{Tree, Trees, Arms, bound, free, literal, truth, con, call, put, choice, case, bind, op}
use Rattle.tg_model.specs.Types.{Ty}
use Rattle.tg_model.specs.Value.{Value, made, values, wrong}
use Rattle.tg_model.specs.Theory.{Theory}
use Rattle.tg_model.specs.Denotation.{World, value_in, values_in, branch_in, opened, operated, chosen, world}
use Rattle.tg_model.specs.TermTyping.{Typing, Typings, ArmTypings, leaf, instanced, compound, branching, binding, none, more, arm, constructor_arguments, IsTyping, AreTypings, AreArmTypings}
use Rattle.tg_model.specs.TypeLaws.{IsClosedValue}
use Rattle.tg_model.proofs.Places.{get_left}
use Rattle.tg_model.proofs.Walks.{if_same, by_branch}

module _ (th : Theory) (vars : List Ty) (w : World) (env extra : List Value) where
  abbrev after_case : Arms → List Value → Option (ℕ × List Value) → Value
  after_case bs loc o = option_map_or (λ (p : ℕ × List Value). branch_in w env loc p.0 p.1 bs) o wrong

  mutual
    own_value : (t : Tree) (d : Typing) (locs : List Ty) (loc : List Value) → length loc ≡ length locs → IsTyping th vars locs t d
        → value_in w env (loc ++ extra) t ≡ value_in w env loc t
    own_value (bound k) (leaf t) locs loc n h =
        ap (λ o. unwrap_or o wrong) (get_left loc extra k (omega (arith, slice_get_within locs k t h, n)))
    own_value (free m) (leaf t) locs loc n h = refl
    own_value (literal m) (leaf t) locs loc n h = refl
    own_value (truth b) (leaf t) locs loc n h = refl
    own_value (con c ts) (instanced us t ds) locs loc n (o, is, e, q, args, each) = ap (λ vs. made c (values vs)) (own_values ts ds locs loc n each)
    own_value (call f ts) (instanced us t ds) locs loc n (x, is, e, q, args, each) = ap (w.calls f) (own_values ts ds locs loc n each)
    own_value (put ts) (compound t ds) locs loc n (q, args, each) = ap w.answers (own_values ts ds locs loc n each)
    own_value (choice ts) (compound t ds) locs loc n (args, each) = ap chosen (own_values ts ds locs loc n each)
    own_value (op o ts) (compound t ds) locs loc n (is, each) = ap (operated o) (own_values ts ds locs loc n each)
    own_value (bind t body) (binding u v d e) locs loc n (p, q, b, s) =
        ap (λ x. value_in w env (x ∷ (loc ++ extra)) body) (own_value t d locs loc n p) ∙ own_value body e (u ∷ locs) (value_in w env loc t ∷ loc) (ap suc n) b
    own_value (case m t bs) (branching us u d arms) locs loc n (is, e, p, each) =
        ap (λ x. after_case bs (loc ++ extra) (opened m (w.first m) x)) (own_value t d locs loc n p)
        ∙ by_branch _ _ (λ k vs. own_branch bs (constructor_arguments th m us) arms u locs loc n each k vs) (opened m (w.first m) (value_in w env loc t))
    own_value t d locs loc n h = absurd h

    own_values : (ts : Trees) (ds : Typings) (locs : List Ty) (loc : List Value) → length loc ≡ length locs → AreTypings th vars locs ts ds
        → values_in w env (loc ++ extra) ts ≡ values_in w env loc ts
    own_values tree.none ds locs loc n h = refl
    own_values (tree.more t ts) none locs loc n h = absurd h
    own_values (tree.more t ts) (more d ds) locs loc n h = λ i. own_value t d locs loc n h.0 i ∷ own_values ts ds locs loc n h.1 i

    own_branch : (bs : Arms) (args : List (List Ty)) (arms : ArmTypings) (u : Ty) (locs : List Ty) (loc : List Value) → length loc ≡ length locs
        → AreArmTypings th vars locs u bs args arms → (k : ℕ) (vs : List Value) → branch_in w env (loc ++ extra) k vs bs ≡ branch_in w env loc k vs bs
    own_branch tree.end args arms u locs loc n h k vs = refl
    own_branch (tree.arm m body bs) (ts ∷ rest) (arm ts' d arms) u locs loc n (count, e, p, q, others) zero vs =
        if_same _ _ wrong (nat_eq m (length vs)) (λ x.
        let same : length (reverse vs ++ loc) ≡ length (reverse ts ++ locs) =
        let a = length-append (reverse vs) loc in let b = length-append (reverse ts) locs in
        let c = length-reverse vs in let f = length-reverse ts in let g = eqb-true m (length vs) x in omega arith in
        ap (λ l. value_in w env l body) (sym (append_assoc (reverse vs) loc extra)) ∙ own_value body d (reverse ts ++ locs) (reverse vs ++ loc) same p)
    own_branch (tree.arm m body bs) (ts ∷ rest) (arm ts' d arms) u locs loc n (count, e, p, q, others) (suc k) vs = own_branch bs rest arms u locs loc n others k vs
    own_branch (tree.arm m body bs) args arms u locs loc n h k vs = absurd h

-- a term that is typed outside all binders has one value within any
pub closed_value : (th : Theory) (vars : List Ty) (w : World) (env loc : List Value) (t : Tree) (d : Typing) → IsTyping th vars [] t d
    → value_in w env loc t ≡ value_in w env [] t
closed_value th vars w env loc t d h = own_value th vars w env loc t d [] [] refl h

pub is_closed_value : IsClosedValue
is_closed_value th tb vars env loc t u (d, h, e) = closed_value th vars (world th tb) env loc t d h
