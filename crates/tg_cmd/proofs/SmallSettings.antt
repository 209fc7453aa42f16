-- The numbers of settings are small enough to be written.
use Rattle.std.proofs.Common.{ℕ, ◌<◌, List, [], ◌∷◌, Option, Some, None, sym, subst, arith, All}
use Rattle.std.specs.Prelude.{unwrap_or}
use Rattle.std.proofs.lemmas.List.Elements.{All-head, All-tail}
use Rattle.tg_harness.specs.ReadBack.{AreSmall}
use Rattle.tg_types.specs.declared.options.Settings.{Settings}
use Rattle.tg_cmd.specs.declared.options.Chosen.{Chosen}
use Rattle.tg_cmd.specs.declared.options.Setting.TheVariants.{Depth, Bound, Seed, Tries, Width}
use Rattle.tg_cmd.specs.Options.{Choice, IsChoice, chosen, all_chosen, nothing_chosen, ReadsOptions}

abbrev IsSmall : Option ℕ → Type 0
IsSmall None = Unit {0}
IsSmall (Some n) = n < 18446744073709551616

record AreChosenSmall (c : Chosen) : Type 0 where
  depth : IsSmall c.depth
  bound : IsSmall c.bound
  seed : IsSmall c.seed
  tries : IsSmall c.tries
  width : IsSmall c.width

one_chosen : (c : Chosen) (x : Choice) → IsChoice x → AreChosenSmall c → AreChosenSmall (chosen c x.0 x.1)
one_chosen c (Depth, n) h k = record { depth = omega (arith, h.1); bound = k.bound; seed = k.seed; tries = k.tries; width = k.width }
one_chosen c (Bound, n) h k = record { depth = k.depth; bound = omega (arith, h.1); seed = k.seed; tries = k.tries; width = k.width }
one_chosen c (Seed, n) h k = record { depth = k.depth; bound = k.bound; seed = omega (arith, h.1); tries = k.tries; width = k.width }
one_chosen c (Tries, n) h k = record { depth = k.depth; bound = k.bound; seed = k.seed; tries = omega (arith, h.1); width = k.width }
one_chosen c (Width, n) h k = record { depth = k.depth; bound = k.bound; seed = k.seed; tries = k.tries; width = omega (arith, h.1) }

each_chosen : (xs : List Choice) (c : Chosen) → All IsChoice xs → AreChosenSmall c → AreChosenSmall (all_chosen c xs)
each_chosen [] c h k = k
each_chosen (x ∷ xs) c h k = each_chosen xs (chosen c x.0 x.1) (All-tail IsChoice x xs h) (one_chosen c x (All-head IsChoice x xs h) k)

or_small : (d : ℕ) (o : Option ℕ) → d < 18446744073709551616 → IsSmall o → unwrap_or o d < 18446744073709551616
or_small d None e h = e
or_small d (Some n) e h = h

pub settings_small : (words : List (List ℕ)) (s : Settings) → ReadsOptions words s → AreSmall s
settings_small words s (choices, allowed, once, e, f) =
    let c = all_chosen nothing_chosen choices in
    let k = each_chosen choices nothing_chosen allowed (record { depth = tt; bound = tt; seed = tt; tries = tt; width = tt }) in
    subst AreSmall (sym f) (
      or_small 3 c.depth (omega arith) k.depth,
      or_small 8 c.bound (omega arith) k.bound,
      or_small 1 c.seed (omega arith) k.seed,
      or_small 1000 c.tries (omega arith) k.tries,
      or_small 16 c.width (omega arith) k.width,
    )
