-- What a word is, whatever its arguments.
use Rattle.std.specs.Prelude.{ℕ, ◌≡◌, List, Option, option_map}
use Rattle.tg_accept.specs.Meaning.{Scope, variable_on, word_on, word_meant}
use Rattle.tg_accept.specs.Raw.{Binder}
use Rattle.tg_accept.specs.Resolved as model
use Rattle.tg_accept.specs.Resolved.{Resolved, Resolveds}
use Rattle.tg_infer.specs.declared.uses.Use.{Use}
use Rattle.tg_infer.specs.declared.uses.Use.TheVariants.{Bound, Free, Own, Declared}
use Rattle.tg_infer.specs.Words.{word}

abbrev pub use_on : Use → Resolveds → Resolved
use_on (Bound k) us = variable_on (model.bound k) us
use_on (Free n) us = variable_on (model.free n) us
use_on Own us = model.own us
use_on (Declared w) us = word_on us (word w)

-- on all arguments the word is this
pub record IsMeaning (S : Scope) (locs : List Binder) (x : List ℕ) (found : Option Use) : Type 0 where
  pub is : (us : Resolveds) → option_map (λ u. use_on u us) found ≡ word_meant S locs x us
