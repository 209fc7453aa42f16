-- A rule other than `exhaust` has at most two premises.
use Rattle.std.proofs.Common.{ℕ, zero, suc, ◌≡◌, ◌≤◌, List, [], ◌∷◌, length, map, None, refl, arith}
use Rattle.tg_model.specs.Formula as model
use Rattle.tg_model.specs.Theory.{Theory}
use Rattle.tg_calculus.specs.Draft.{draft}
use Rattle.tg_calculus.specs.Rule as calculus
use Rattle.tg_calculus.specs.Rule.{Rule}
use Rattle.tg_kernel.specs.Sequents.{sequent}
use Rattle.tg_kernel.specs.declared.sequents.Sequent.{Sequent}

many_of : (th : Theory) (r : Rule) (p q s : model.Sequent) (ps : List model.Sequent) → ((n : ℕ) → ¬ (r ≡ calculus.exhaust n)) → None ≡ draft th r (p ∷ q ∷ s ∷ ps)
many_of th (calculus.hyp G F) p q s ps n = refl
many_of th (calculus.weak F) p q s ps n = refl
many_of th calculus.cut p q s ps n = refl
many_of th (calculus.grow Ts) p q s ps n = refl
many_of th calculus.and_i p q s ps n = refl
many_of th calculus.and_l p q s ps n = refl
many_of th calculus.and_r p q s ps n = refl
many_of th (calculus.imp_i F) p q s ps n = refl
many_of th calculus.mp p q s ps n = refl
many_of th calculus.all_i p q s ps n = refl
many_of th (calculus.all_e t) p q s ps n = refl
many_of th (calculus.ex_i F t) p q s ps n = refl
many_of th calculus.ex_e p q s ps n = refl
many_of th calculus.thyp_i p q s ps n = refl
many_of th calculus.thyp_e p q s ps n = refl
many_of th (calculus.truth G) p q s ps n = refl
many_of th (calculus.falsity F) p q s ps n = refl
many_of th (calculus.split t) p q s ps n = refl
many_of th (calculus.reflexive G t) p q s ps n = refl
many_of th calculus.symmetric p q s ps n = refl
many_of th calculus.transitive p q s ps n = refl
many_of th (calculus.replace F) p q s ps n = refl
many_of th (calculus.schema G k t) p q s ps n = refl
many_of th (calculus.exhaust m) p q s ps n = absurd (n m refl)
many_of th (calculus.deep G zero ts) p q s ps n = refl
many_of th (calculus.deep G (suc k) ts) p q s ps n = refl
many_of th (calculus.compute G t) p q s ps n = refl

pub too_many : (th : Theory) (r : Rule) (ps : List Sequent) → 3 ≤ length ps → ((n : ℕ) → ¬ (r ≡ calculus.exhaust n)) → None ≡ draft th r (map sequent ps)
too_many th r [] h n = absurd (omega (arith, h))
too_many th r (p ∷ []) h n = absurd (omega (arith, h))
too_many th r (p ∷ q ∷ []) h n = absurd (omega (arith, h))
too_many th r (p ∷ q ∷ s ∷ ps) h n = many_of th r (sequent p) (sequent q) (sequent s) (map sequent ps) n

pub ruleset many = (too_many)
