-- Where a term stands, as the definitions have it.
use Rattle.std.specs.Prelude.{ℕ, ◌≡◌, Bool, false, List, [], option_map}
use Rattle.tg_accept.specs.Declared.{Declared}
use Rattle.tg_accept.specs.Meaning as meaning
use Rattle.tg_infer.specs.declared.scopes.Scope.{Scope}
use Rattle.tg_infer.specs.Words.{program_names}

abbrev pub scope_of : Scope → meaning.Scope
scope_of s = record {
  declared = s.declared.now;
  own = program_names (option_map (λ x. x.now) s.own);
  is_recursive = s.is_recursive;
  variables = s.variables.now;
  in_certificate = s.in_certificate;
}

-- each name is the same variable in both
pub record AreSameVariables (vs ws : List (List ℕ × ℕ)) : Type 0 where
  pub is : (x : List ℕ) → meaning.variable_named x vs ≡ meaning.variable_named x ws

-- where no function is declared
abbrev pub outside : Declared → List (List ℕ × ℕ) → Bool → meaning.Scope
outside D vs in_certificate = record { declared = D; own = []; is_recursive = false; variables = vs; in_certificate = in_certificate }
