-- Chains, level by level and term by term.
use Rattle.std.proofs.Common.{ℕ, zero, suc, ◌≡◌, ◌+◌, ◌-◌, ◌||◌, ◌≢◌, Bool, true, false, List, [], ◌∷◌, length, map, drop, Some, None, refl, sym, ◌∙◌, ap, arith}
use Rattle.tg_model.specs.Tree.{Tree, Trees, bound, free, literal, truth, con, call, put, choice, case, bind, op, trees}
use Rattle.tg_model.specs.Types.{Ty}
use Rattle.tg_model.specs.Theory.{Theory}
use Rattle.tg_calculus.specs.Chains.{is_data, has_chain, some_has_chain, arguments_at}
use Rattle.tg_term.proofs.ListHeights.{height_at}

module _ (th : Theory) (T : Ty) where
  pub no_level : (t : Tree) (k : ℕ) → k ≡ 0 → is_data T ≡ has_chain th t k T
  no_level (bound n) k e = ap (λ m. has_chain th (bound n) m T) (sym e)
  no_level (free n) k e = ap (λ m. has_chain th (free n) m T) (sym e)
  no_level (literal n) k e = ap (λ m. has_chain th (literal n) m T) (sym e)
  no_level (truth b) k e = ap (λ m. has_chain th (truth b) m T) (sym e)
  no_level (con c ts) k e = ap (λ m. has_chain th (con c ts) m T) (sym e)
  no_level (call f ts) k e = ap (λ m. has_chain th (call f ts) m T) (sym e)
  no_level (put ts) k e = ap (λ m. has_chain th (put ts) m T) (sym e)
  no_level (choice ts) k e = ap (λ m. has_chain th (choice ts) m T) (sym e)
  no_level (case d t bs) k e = ap (λ m. has_chain th (case d t bs) m T) (sym e)
  no_level (bind t u) k e = ap (λ m. has_chain th (bind t u) m T) (sym e)
  no_level (op o ts) k e = ap (λ m. has_chain th (op o ts) m T) (sym e)

  pub one_level : (c : ℕ) (ts : Trees) (j k : ℕ) → k ≡ suc j → some_has_chain th ts j (arguments_at th c T) ≡ has_chain th (con c ts) k T
  one_level c ts j k e = ap (λ m. has_chain th (con c ts) m T) (sym e)

pub ruleset chains = (no_level, one_level, height_at)
