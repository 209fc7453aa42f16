-- The laws of all rows.
use Rattle.std.proofs.Common.{ℕ, zero, suc, ◌≡◌, List, [], ◌∷◌, Some, true, false, refl, subst}
use Rattle.std.specs.Prelude.{slice_get}
use Rattle.tg_model.specs.Tree.{free, truth, con}
use Rattle.tg_model.specs.Theory.{Theory}
use Rattle.tg_model.specs.WellTyped.{IsWellTyped}
use Rattle.tg_model.specs.Walk.{instantiated}
use Rattle.tg_rows.specs.Laws.{Setting, RowsKeep, AreFortyEight, SomeForLet, NoneForMade}
use Rattle.tg_rows.specs.Rows.{Row, rows}
use Rattle.tg_rows.proofs.PartForms.{then_some}
use Rattle.tg_rows.proofs.Settings.{Keeps}
use Rattle.tg_rows.proofs.TruthRows as truths
use Rattle.tg_rows.proofs.NumberRows as numbers
use Rattle.tg_rows.proofs.EqualityRows as equalities
use Rattle.tg_rows.proofs.BinderRows as binders
use Rattle.tg_rows.proofs.CallRows as calls

module _ (th : Theory) (wt : IsWellTyped th) (n : Setting th) where
  abbrev AllKeep : List Row → Type 0
  AllKeep [] = Unit {0}
  AllKeep (f ∷ fs) = Keeps th wt n f × AllKeep fs

  one_keeps : (fs : List Row) (k : ℕ) (f : Row) → AllKeep fs → slice_get fs k ≡ Some f → Keeps th wt n f
  one_keeps [] k f h e = cc e
  one_keeps (g ∷ fs) zero f h e = let p : g ≡ f = cc e in subst (λ (x : Row). Keeps th wt n x) p h.0
  one_keeps (g ∷ fs) (suc k) f h e = one_keeps fs k f h.1 e

  all_keep : AllKeep (rows th)
  all_keep = (
    truths.not_truth_keeps th wt n true,
    (
      truths.not_truth_keeps th wt n false,
      (
        truths.not_not_keeps th wt n,
        (
          truths.and_true_l th wt n,
          (
            truths.and_false_l th wt n,
            (
              truths.and_true_r th wt n,
              (
                truths.and_false_r th wt n,
                (
                  truths.and_same th wt n,
                  (
                    truths.or_true_l th wt n,
                    (
                      truths.or_false_l th wt n,
                      (
                        truths.or_true_r th wt n,
                        (
                          truths.or_false_r th wt n,
                          (
                            truths.or_same th wt n,
                            (
                              truths.imp_true_l th wt n,
                              (
                                truths.imp_false_l th wt n,
                                (
                                  truths.imp_true_r th wt n,
                                  (
                                    truths.imp_false_r th wt n,
                                    (
                                      truths.imp_same th wt n,
                                      (
                                        truths.if_truth_keeps th wt n true,
                                        (
                                          truths.if_truth_keeps th wt n false,
                                          (
                                            truths.if_same_keeps th wt n,
                                            (
                                              binders.let_sub_keeps th wt n,
                                              (
                                                binders.case_con_keeps th wt n,
                                                (
                                                  binders.case_suc_keeps th wt n,
                                                  (
                                                    binders.case_lit_keeps th wt n,
                                                    (
                                                      calls.unfold_def_keeps th wt n,
                                                      (
                                                        calls.unfold_con_keeps th wt n,
                                                        (
                                                          calls.unfold_suc_keeps th wt n,
                                                          (
                                                            calls.unfold_lit_keeps th wt n,
                                                            (
                                                              numbers.eq_same th wt n,
                                                              (
                                                                equalities.eq_con_keeps th wt n,
                                                                (
                                                                  equalities.eq_con_diff_keeps th wt n,
                                                                  (
                                                                    numbers.eq_lit th wt n,
                                                                    (
                                                                      numbers.eq_suc_keeps th wt n,
                                                                      (
                                                                        equalities.eq_zero_suc_keeps th wt n,
                                                                        (
                                                                          equalities.eq_suc_lit_keeps th wt n,
                                                                          (
                                                                            truths.eq_true th wt n,
                                                                            (
                                                                              truths.eq_false th wt n,
                                                                              (
                                                                                numbers.suc_lit_keeps th wt n,
                                                                                (
                                                                                  numbers.add_lit th wt n,
                                                                                  (
                                                                                    numbers.sub_lit th wt n,
                                                                                    (
                                                                                      numbers.mul_lit th wt n,
                                                                                      (
                                                                                        numbers.div_lit th wt n,
                                                                                        (
                                                                                          numbers.mod_lit th wt n,
                                                                                          (numbers.less_same th wt n, (numbers.less_lit th wt n, (numbers.le_same th wt n, (numbers.le_lit th wt n, tt)))),
                                                                                        ),
                                                                                      ),
                                                                                    ),
                                                                                  ),
                                                                                ),
                                                                              ),
                                                                            ),
                                                                          ),
                                                                        ),
                                                                      ),
                                                                    ),
                                                                  ),
                                                                ),
                                                              ),
                                                            ),
                                                          ),
                                                        ),
                                                      ),
                                                    ),
                                                  ),
                                                ),
                                              ),
                                            ),
                                          ),
                                        ),
                                      ),
                                    ),
                                  ),
                                ),
                              ),
                            ),
                          ),
                        ),
                      ),
                    ),
                  ),
                ),
              ),
            ),
          ),
        ),
      ),
    ),
  )

pub rows_keep : RowsKeep
rows_keep th wt n zero t u a e h = cc e
rows_keep th wt n (suc k) t u a e h =
    let p = then_some (slice_get (rows th) k) (λ (f : Row). f t) u e in one_keeps th wt n (rows th) k p.0 (all_keep th wt n) p.1 t u a p.2 h

pub are_forty_eight : AreFortyEight
are_forty_eight th = refl

pub some_for_let : SomeForLet
some_for_let th t body = (22, instantiated (t ∷ []) body, refl)

pub none_for_made : NoneForMade
none_for_made th (free k) m = refl
none_for_made th (truth b) m = refl
none_for_made th (con c ts) m = refl
none_for_made th t m = absurd m
