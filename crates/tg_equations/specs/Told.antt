-- What an answer on typings tells.
use Rattle.tg_model.specs.TermTyping.{Typing}
use Rattle.tg_accept.specs.Typings.{HasTyping, HasOneTyping, HasTwoTypings}
use Rattle.tg_typing.specs.declared.typings.Typings.{Typings}
use Rattle.tg_typing.specs.declared.typings.Typings.TheVariants.{None, One, Several}

abbrev pub AreTypings : (Typing → Type 0) → Typings → Type 0
AreTypings Is None = ¬ (HasTyping Is)
AreTypings Is One = HasOneTyping Is
AreTypings Is Several = HasTwoTypings Is
