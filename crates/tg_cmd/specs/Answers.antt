-- What answers mean to the caller of the program.
use Rattle.std.specs.Prelude.{ℕ, List, ◌++◌, get_or, codes, decimal}
use Rattle.tg_lex.specs.Load.{load_limit}
use Rattle.tg_accept.specs.Checks as checks
use Rattle.tg_accept.specs.Checks.{Kind}
use Rattle.tg_cmd.specs.declared.answer.Answer.{Answer}
use Rattle.tg_cmd.specs.declared.answer.Answer.TheVariants.{Done, TestsFailed, Usage, ReadFault, WriteFault, Memory, Refused, Limit}
use Rattle.tg_cmd.specs.declared.answer.Ending.{Ending}
use Rattle.tg_cmd.specs.declared.answer.Ending.TheVariants as endings
use Rattle.tg_cmd.specs.declared.answer.Refusal.{Refusal}
use Rattle.tg_cmd.specs.declared.answer.Refusal.TheVariants.{Form, Name, Typing, Ambiguous, Shape, Program, Settings, Unknown, Repeated, BadAnswer, StandIn, Certificate}
use Rattle.tg_cmd.specs.declared.answer.LimitName.{LimitName}
use Rattle.tg_cmd.specs.declared.answer.LimitName.TheVariants.{Input, Number, Nesting, TermSize, Patterns, Splits, Steps, Clauses}

abbrev pub status_of : Answer → ℕ
status_of Done = 0
status_of TestsFailed = 1
status_of Usage = 2
status_of ReadFault = 3
status_of (WriteFault written) = 4
status_of Memory = 5
status_of (Refused refusal) = 6
status_of (Limit name) = 7

-- the five settings of a header, in its order
abbrev pub settings_text : List ℕ → List ℕ
settings_text ns =
    codes "depth " ++ (decimal (get_or ns 0 0) ++ (codes " bound " ++ (decimal (get_or ns 1 0) ++ (codes " seed " ++ (decimal (get_or ns 2 0)
    ++ (codes " tries " ++ (decimal (get_or ns 3 0) ++ (codes " width " ++ decimal (get_or ns 4 0)))))))))

-- the lines that are written in place of a result, each ended by LF
abbrev pub refusal_line : Refusal → List ℕ
refusal_line (Form place) = codes "refused form at declaration " ++ (decimal place ++ codes "\n")
refusal_line (Name place) = codes "refused name at declaration " ++ (decimal place ++ codes "\n")
refusal_line (Typing place) = codes "refused typing at declaration " ++ (decimal place ++ codes "\n")
refusal_line (Ambiguous place) = codes "refused ambiguous at declaration " ++ (decimal place ++ codes "\n")
refusal_line (Shape place) = codes "refused shape at declaration " ++ (decimal place ++ codes "\n")
refusal_line (Settings stated used) =
    codes "refused settings stated " ++ (settings_text stated ++ (codes " used " ++ (settings_text used ++ codes "\n")))
refusal_line (Unknown test) = codes "refused unknown at test " ++ (decimal test ++ codes "\n")
refusal_line (Repeated test) = codes "refused repeated at test " ++ (decimal test ++ codes "\n")
refusal_line (BadAnswer test) = codes "refused answer at test " ++ (decimal test ++ codes "\n")
refusal_line StandIn = codes "refused standin\n"
refusal_line (Certificate line) = codes "refused certificate at line " ++ (decimal line ++ codes "\n")
refusal_line (Program place) = codes "refused program at declaration " ++ (decimal place ++ codes "\n")

abbrev pub limit_line : LimitName → List ℕ
limit_line Input = codes "limit input 16777216\n"
limit_line Number = codes "limit number 18446744073709551615\n"
limit_line Nesting = codes "limit nesting " ++ (decimal load_limit ++ codes "\n")
limit_line TermSize = codes "limit termsize 100000\n"
limit_line Patterns = codes "limit patterns 4096\n"
limit_line Splits = codes "limit splits 4096\n"
limit_line Steps = codes "limit steps 2000000\n"
limit_line Clauses = codes "limit clauses 4096\n"

-- once the output was written
abbrev pub answer_after : Ending → Answer
answer_after endings.Done = Done
answer_after endings.TestsFailed = TestsFailed
answer_after (endings.Refused refusal) = Refused refusal
answer_after (endings.Limit name) = Limit name

-- the answer for a fault of a theory, and its line
abbrev pub answer_for : Kind → ℕ → Answer
answer_for checks.term_size place = Limit TermSize
answer_for checks.name place = Refused (Name place)
answer_for checks.typing place = Refused (Typing place)
answer_for checks.ambiguous place = Refused (Ambiguous place)
answer_for checks.shape place = Refused (Shape place)
answer_for checks.program place = Refused (Program place)

abbrev pub line_for : Kind → ℕ → List ℕ
line_for checks.term_size place = limit_line TermSize
line_for checks.name place = refusal_line (Name place)
line_for checks.typing place = refusal_line (Typing place)
line_for checks.ambiguous place = refusal_line (Ambiguous place)
line_for checks.shape place = refusal_line (Shape place)
line_for checks.program place = refusal_line (Program place)
