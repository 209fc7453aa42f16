-- The names in a text are words that aren't reserved.
use Rattle.std.specs.Prelude.{ℕ, List, map}
use Rattle.std.specs.List.{All}
use Rattle.tg_grammar.specs.Parts.{Part, Value, Theory, Judge, Check}
use Rattle.tg_grammar.specs.Parts as parts
use Rattle.tg_grammar.specs.Reading.{IsText}
use Rattle.tg_grammar.specs.Seen.{seen}
use Rattle.tg_grammar.specs.declared.declarations.RawTheory.{RawTheory}
use Rattle.tg_lex.specs.declared.token.Token.{Token}
use Rattle.tg_lex.specs.Grammar.{IsTokenOf}
use Rattle.tg_theory.specs.Names.{IsName}
use Rattle.tg_infer.specs.Named.{AreNamed}
use Rattle.tg_infer.specs.View.{raw_declaration}

-- the theory's own name, and the names that it declares
pub record IsNamed (theory : RawTheory) : Type 0 where
  pub name : IsName theory.name
  pub declared : AreNamed (map raw_declaration theory.decls)

-- the theory of a text by itself, of one with outcomes, and of one with a certificate
pub record TextsAreNamed : Type 0 where
  pub alone : (bytes : List ℕ) (tokens : List Token) (theory : RawTheory) → All (IsTokenOf bytes) tokens → IsText Theory theory (seen bytes tokens)
      → IsNamed theory
  pub judged : (bytes : List ℕ) (tokens : List Token) (text : Value Judge) → All (IsTokenOf bytes) tokens → IsText Judge text (seen bytes tokens) → IsNamed text.0
  pub checked : (bytes : List ℕ) (tokens : List Token) (text : Value Check) → All (IsTokenOf bytes) tokens → IsText Check text (seen bytes tokens) → IsNamed text.0
