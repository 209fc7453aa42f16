-- A script for a POSIX shell that runs the program on each test and prints what it answered. The program's path is the script's first
-- argument. All between single quotes is literal, and the assignment of a command's output has the command's exit status.
use Rattle.std.specs.Prelude.{ℕ, List, [], ◌∷◌, ◌++◌, codes, decimal}
use Rattle.tg_model.specs.Theory.{Theory}
use Rattle.tg_model.specs.Value.{Value}
use Rattle.tg_types.specs.declared.options.Settings.{Settings}
use Rattle.tg_render.specs.Render.{render}
use Rattle.tg_report.specs.ValueTexts.{value_tokens}
use Rattle.tg_harness.specs.OutcomeTexts.{head_line}
use Rattle.tg_harness.specs.Tests.{Test}

-- `'TEXT'`
abbrev pub quoted : List ℕ → List ℕ
quoted text = codes "'" ++ (text ++ codes "'")

-- the inputs, a quoted word each
abbrev pub words : Theory → List Value → List ℕ
words th [] = []
words th (v ∷ vs) = codes " " ++ (quoted (render (value_tokens th v)) ++ words th vs)

-- prints the words that follow, a line each
abbrev pub print : List ℕ
print = codes "printf '%s\\n' "

-- `if a=$("$1" 'INPUT' ..); then printf '%s\n' "answer N $a;"; else printf '%s\n' 'raised N;'; fi`
abbrev pub test_line : Theory → Test → List ℕ
test_line th t = codes "if a=$(\"$1\"" ++ (words th t.datum ++ (codes "); then " ++ (print ++ (codes "\"answer " ++ (decimal t.number ++ (codes " $a;\"; else "
    ++ (print ++ (codes "'raised " ++ (decimal t.number ++ codes ";'; fi\n")))))))))

abbrev pub test_lines : Theory → List Test → List ℕ
test_lines th [] = []
test_lines th (t ∷ ts) = test_line th t ++ test_lines th ts

abbrev pub harness_text : Theory → Settings → List Test → List ℕ
harness_text th s ts = codes "#!/bin/sh\n" ++ (print ++ (quoted (render (head_line s)) ++ (codes "\n" ++ (test_lines th ts ++ (print ++ codes "'end'\n")))))
