use Rattle.std.proofs.Common.{◌≡◌, ℕ, List, Option, IfSome, sym, subst}
use Rattle.std.specs.Io.KnownBytes.{Appends}
use Rattle.tg_io.specs.Whole.{written_of}
use Rattle.tg_cmd.specs.declared.answer.Answer.{Answer}
use Rattle.tg_cmd.specs.declared.answer.Answer.TheVariants.{Done, TestsFailed, Refused, Limit, WriteFault}
use Rattle.tg_cmd.specs.declared.answer.Ending.{Ending}
use Rattle.tg_cmd.specs.declared.answer.Ending.TheVariants as endings
use Rattle.tg_cmd.specs.Answers.{answer_after}
use Rattle.tg_cmd.specs.Requests.{Request, generate, judge, simulate, check, asked, ReadsWords, AskFor}
use Rattle.tg_cmd.specs.Output.{IsOutput, IsRead, HasBytes, Completes}
use Rattle.tg_cmd.proofs.Completeness.{all_complete}
use Rattle.tg_cmd.proofs.SmallData.{settings_in_range}
use Rattle.tg_cmd.proofs.Promises.{theorem_written, headline_written, checked_written}
use Rattle.tg_cmd.proofs.Simulations.{outcomes_written}
use Rattle.tg_cmd.proofs.SmallSettings.{settings_small}
use Rattle.tg_cmd.proofs.top.run.Goals as goal

-- the words ask for one thing, so what holds of it holds of all that they read as
moved : (words : List (List ℕ)) (r q : Request) (answer : Answer) (before after old new : Option (List ℕ)) → AskFor words r → ReadsWords words q
    → HasBytes r answer before after old new → HasBytes q answer before after old new
moved words r q answer before after old new ask reads h = subst (λ (x : Request). HasBytes x answer before after old new) (ask.only q reads) h

written_whole : (r : Request) (e : Ending) (made text : List ℕ) (before after old new : Option (List ℕ)) → text ≡ made
    → IfSome before (λ input. IsOutput r input (answer_after e) made) → IsRead before after → Appends old new text → HasBytes r (answer_after e) before after old new
written_whole r endings.Done made text before after old new same output read appended =
    (read, record { text = text; output = subst (λ (z : List ℕ). IfSome before (λ input. IsOutput r input Done z)) (sym same) output; appended = appended })
written_whole r endings.TestsFailed made text before after old new same output read appended =
    (read, record { text = text; output = subst (λ (z : List ℕ). IfSome before (λ input. IsOutput r input TestsFailed z)) (sym same) output; appended = appended })
written_whole r (endings.Refused refusal) made text before after old new same output read appended =
    (read, record { text = text; output = subst (λ (z : List ℕ). IfSome before (λ input. IsOutput r input (Refused refusal) z)) (sym same) output; appended = appended })
written_whole r (endings.Limit n) made text before after old new same output read appended =
    (read, record { text = text; output = subst (λ (z : List ℕ). IfSome before (λ input. IsOutput r input (answer_after (endings.Limit n)) z)) (sym same) output; appended = appended })

pub returns-in-Done-clause-bytes : goal.returns-in-Done-clause-bytes
returns-in-Done-clause-bytes g c = λ q words.
    let before = g.S.Source.left c.args.source.now in
    let after = g.S.Source.left c.make_output.new.source in
    let old = g.K.Sink.written c.args.sink.now in
    let new = g.K.Sink.written c.write_all.new.sink in
    let r = asked c.in-Some.request in
    moved c.args.words.now r q Done before after old new c.in-Some.ensures words
    (written_whole r endings.Done c.in-Ok.output.text.items c.as_slice.result.now before after old new
    c.as_slice.ensures.value (subst (λ (e : Ending). IfSome before (λ input. IsOutput r input (answer_after e) c.in-Ok.output.text.items)) c.in-Done.is c.in-Ok.ensures.made)
    c.in-Ok.ensures.read c.in-Ok-write_all.ensures.whole)

pub returns-in-TestsFailed-clause-bytes : goal.returns-in-TestsFailed-clause-bytes
returns-in-TestsFailed-clause-bytes g c = λ q words.
    let before = g.S.Source.left c.args.source.now in
    let after = g.S.Source.left c.make_output.new.source in
    let old = g.K.Sink.written c.args.sink.now in
    let new = g.K.Sink.written c.write_all.new.sink in
    let r = asked c.in-Some.request in
    moved c.args.words.now r q TestsFailed before after old new c.in-Some.ensures words
    (written_whole r endings.TestsFailed c.in-Ok.output.text.items c.as_slice.result.now before after old new
    c.as_slice.ensures.value (subst (λ (e : Ending). IfSome before (λ input. IsOutput r input (answer_after e) c.in-Ok.output.text.items)) c.in-TestsFailed.is c.in-Ok.ensures.made)
    c.in-Ok.ensures.read c.in-Ok-write_all.ensures.whole)

pub returns-in-Refused-clause-bytes : goal.returns-in-Refused-clause-bytes
returns-in-Refused-clause-bytes g c = λ q words.
    let before = g.S.Source.left c.args.source.now in
    let after = g.S.Source.left c.make_output.new.source in
    let old = g.K.Sink.written c.args.sink.now in
    let new = g.K.Sink.written c.write_all.new.sink in
    let r = asked c.in-Some.request in
    moved c.args.words.now r q (Refused c.in-Refused.refusal) before after old new c.in-Some.ensures words
    (written_whole r (endings.Refused c.in-Refused.refusal) c.in-Ok.output.text.items c.as_slice.result.now before after old new
    c.as_slice.ensures.value (subst (λ (e : Ending). IfSome before (λ input. IsOutput r input (answer_after e) c.in-Ok.output.text.items)) c.in-Refused.is c.in-Ok.ensures.made)
    c.in-Ok.ensures.read c.in-Ok-write_all.ensures.whole)

completed : (words : List (List ℕ)) (r q : Request) (left : Option (List ℕ)) (answer : Answer) (text : List ℕ) → AskFor words r → ReadsWords words q
    → IfSome left (λ input. IsOutput r input answer text) → IfSome left (λ input. Completes q input answer)
completed words r q left answer text ask reads h =
    subst (λ (x : Request). IfSome left (λ input. Completes x input answer)) (ask.only q reads) (all_complete r left answer text h)

pub returns-in-None-clause-complete : goal.returns-in-None-clause-complete
returns-in-None-clause-complete g c = λ q words. absurd (c.in-None.ensures (q, words))

pub returns-in-Done-clause-complete : goal.returns-in-Done-clause-complete
returns-in-Done-clause-complete g c = λ q words.
    let before = g.S.Source.left c.args.source.now in
    let r = asked c.in-Some.request in
    completed c.args.words.now r q before Done c.in-Ok.output.text.items c.in-Some.ensures words
    (subst (λ (e : Ending). IfSome before (λ input. IsOutput r input (answer_after e) c.in-Ok.output.text.items)) c.in-Done.is c.in-Ok.ensures.made)

pub returns-in-TestsFailed-clause-complete : goal.returns-in-TestsFailed-clause-complete
returns-in-TestsFailed-clause-complete g c = λ q words.
    let before = g.S.Source.left c.args.source.now in
    let r = asked c.in-Some.request in
    completed c.args.words.now r q before TestsFailed c.in-Ok.output.text.items c.in-Some.ensures words
    (subst (λ (e : Ending). IfSome before (λ input. IsOutput r input (answer_after e) c.in-Ok.output.text.items)) c.in-TestsFailed.is c.in-Ok.ensures.made)

pub returns-in-Refused-clause-complete : goal.returns-in-Refused-clause-complete
returns-in-Refused-clause-complete g c = λ q words.
    let before = g.S.Source.left c.args.source.now in
    let r = asked c.in-Some.request in
    completed c.args.words.now r q before (Refused c.in-Refused.refusal) c.in-Ok.output.text.items c.in-Some.ensures words
    (subst (λ (e : Ending). IfSome before (λ input. IsOutput r input (answer_after e) c.in-Ok.output.text.items)) c.in-Refused.is c.in-Ok.ensures.made)

pub returns-in-Ok-write_all-clause-bytes : goal.returns-in-Ok-write_all-clause-bytes
returns-in-Ok-write_all-clause-bytes g c = λ q words.
    let before = g.S.Source.left c.args.source.now in
    let after = g.S.Source.left c.make_output.new.source in
    let old = g.K.Sink.written c.args.sink.now in
    let new = g.K.Sink.written c.write_all.new.sink in
    let r = asked c.in-Some.request in
    moved c.args.words.now r q (Limit c.in-Limit.name) before after old new c.in-Some.ensures words
    (written_whole r (endings.Limit c.in-Limit.name) c.in-Ok.output.text.items c.as_slice.result.now before after old new
    c.as_slice.ensures.value (subst (λ (e : Ending). IfSome before (λ input. IsOutput r input (answer_after e) c.in-Ok.output.text.items)) c.in-Limit.is c.in-Ok.ensures.made)
    c.in-Ok.ensures.read c.in-Ok-write_all.ensures.whole)

pub returns-in-Ok-write_all-clause-complete : goal.returns-in-Ok-write_all-clause-complete
returns-in-Ok-write_all-clause-complete g c = λ q words.
    let before = g.S.Source.left c.args.source.now in
    let r = asked c.in-Some.request in
    completed c.args.words.now r q before (Limit c.in-Limit.name) c.in-Ok.output.text.items c.in-Some.ensures words
    (subst (λ (e : Ending). IfSome before (λ input. IsOutput r input (answer_after e) c.in-Ok.output.text.items)) c.in-Limit.is c.in-Ok.ensures.made)

pub returns-clause-bytes : goal.returns-clause-bytes
returns-clause-bytes g c = λ q words.
    let before = g.S.Source.left c.args.source.now in
    let after = g.S.Source.left c.make_output.new.source in
    let old = g.K.Sink.written c.args.sink.now in
    let new = g.K.Sink.written c.write_all.new.sink in
    let r = asked c.in-Some.request in
    let answer = answer_after c.in-Ok.output.ending in
    let made = subst (λ (z : List ℕ). IfSome before (λ input. IsOutput r input answer z)) (sym c.as_slice.ensures.value) c.in-Ok.ensures.made in
    let fact : HasBytes r (WriteFault (written_of c.in-Err-write_all.error)) before after old new = (
      c.in-Ok.ensures.read,
      record {
        answer = answer;
        text = c.as_slice.result.now;
        output = made;
        part = c.in-Err-write_all.ensures.part;
        appended = c.in-Err-write_all.ensures.front;
      },
    ) in
    moved c.args.words.now r q c.write_fault.result before after old new c.in-Some.ensures words
    (subst (λ (a : Answer). HasBytes r a before after old new) (sym c.write_fault.ensures) fact)

-- the promises

output_at : (words : List (List ℕ)) (r q : Request) (left : Option (List ℕ)) (answer : Answer) (text : List ℕ) → AskFor words r → ReadsWords words q
    → IfSome left (λ input. IsOutput r input answer text) → IfSome left (λ input. IsOutput q input answer text)
output_at words r q left answer text ask reads h = subst (λ (x : Request). IfSome left (λ input. IsOutput x input answer text)) (ask.only q reads) h

pub returns-in-Done-clause-theorem : goal.returns-in-Done-clause-theorem
returns-in-Done-clause-theorem g c = λ t words done.
    let before = g.S.Source.left c.args.source.now in
    let r = asked c.in-Some.request in
    let made = output_at c.args.words.now r (generate t) before Done c.in-Ok.output.text.items c.in-Some.ensures words
    (subst (λ (e : Ending). IfSome before (λ input. IsOutput r input (answer_after e) c.in-Ok.output.text.items)) c.in-Done.is c.in-Ok.ensures.made) in
    theorem_written t (settings_in_range words.0 t words.2) c.as_slice.result.now before (g.K.Sink.written c.args.sink.now) (g.K.Sink.written c.write_all.new.sink)
    (subst (λ (z : List ℕ). IfSome before (λ input. IsOutput (generate t) input Done z)) (sym c.as_slice.ensures.value) made) c.in-Ok-write_all.ensures.whole

pub returns-in-Done-clause-headline : goal.returns-in-Done-clause-headline
returns-in-Done-clause-headline g c = λ t words done.
    let before = g.S.Source.left c.args.source.now in
    let r = asked c.in-Some.request in
    let made = output_at c.args.words.now r (judge t) before Done c.in-Ok.output.text.items c.in-Some.ensures words
    (subst (λ (e : Ending). IfSome before (λ input. IsOutput r input (answer_after e) c.in-Ok.output.text.items)) c.in-Done.is c.in-Ok.ensures.made) in
    headline_written t (settings_in_range words.0 t words.2) Done c.as_slice.result.now before (g.K.Sink.written c.args.sink.now) (g.K.Sink.written c.write_all.new.sink) tt
    (subst (λ (z : List ℕ). IfSome before (λ input. IsOutput (judge t) input Done z)) (sym c.as_slice.ensures.value) made) c.in-Ok-write_all.ensures.whole

pub returns-in-TestsFailed-clause-headline : goal.returns-in-TestsFailed-clause-headline
returns-in-TestsFailed-clause-headline g c = λ t words done.
    let before = g.S.Source.left c.args.source.now in
    let r = asked c.in-Some.request in
    let made = output_at c.args.words.now r (judge t) before TestsFailed c.in-Ok.output.text.items c.in-Some.ensures words
    (subst (λ (e : Ending). IfSome before (λ input. IsOutput r input (answer_after e) c.in-Ok.output.text.items)) c.in-TestsFailed.is c.in-Ok.ensures.made) in
    headline_written t (settings_in_range words.0 t words.2) TestsFailed c.as_slice.result.now before (g.K.Sink.written c.args.sink.now) (g.K.Sink.written c.write_all.new.sink) tt
    (subst (λ (z : List ℕ). IfSome before (λ input. IsOutput (judge t) input TestsFailed z)) (sym c.as_slice.ensures.value) made) c.in-Ok-write_all.ensures.whole

pub returns-in-Done-clause-simulated : goal.returns-in-Done-clause-simulated
returns-in-Done-clause-simulated g c = λ name t words done.
    let before = g.S.Source.left c.args.source.now in
    let r = asked c.in-Some.request in
    let options = words.1 in
    let made = output_at c.args.words.now r (simulate name t) before Done c.in-Ok.output.text.items c.in-Some.ensures words
    (subst (λ (e : Ending). IfSome before (λ input. IsOutput r input (answer_after e) c.in-Ok.output.text.items)) c.in-Done.is c.in-Ok.ensures.made) in
    outcomes_written name t (settings_in_range options.0 t options.2) (settings_small options.0 t options.2) c.as_slice.result.now before
    (g.K.Sink.written c.args.sink.now) (g.K.Sink.written c.write_all.new.sink)
    (subst (λ (z : List ℕ). IfSome before (λ input. IsOutput (simulate name t) input Done z)) (sym c.as_slice.ensures.value) made) c.in-Ok-write_all.ensures.whole

pub returns-in-Done-clause-checked : goal.returns-in-Done-clause-checked
returns-in-Done-clause-checked g c = λ words done.
    let before = g.S.Source.left c.args.source.now in
    let r = asked c.in-Some.request in
    let made = output_at c.args.words.now r check before Done c.in-Ok.output.text.items c.in-Some.ensures words
    (subst (λ (e : Ending). IfSome before (λ input. IsOutput r input (answer_after e) c.in-Ok.output.text.items)) c.in-Done.is c.in-Ok.ensures.made) in
    checked_written c.as_slice.result.now before (g.K.Sink.written c.args.sink.now) (g.K.Sink.written c.write_all.new.sink)
    (subst (λ (z : List ℕ). IfSome before (λ input. IsOutput check input Done z)) (sym c.as_slice.ensures.value) made) c.in-Ok-write_all.ensures.whole
