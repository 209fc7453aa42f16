use Rattle.std.proofs.Common.{◌+◌, ◌∙◌, ap, refl}
use Rattle.tg_calculus.specs.Book.{lines}
use Rattle.tg_kernel.specs.Rules.{as_line}
use Rattle.tg_render.specs.Render.{written_line}
use Rattle.tg_cert.specs.CertificateTexts.{line_tokens}
use Rattle.tg_cert.proofs.WritingLaws.{line_next}
use Rattle.tg_cert.proofs.writing.put_lines.Goals as goal

pub loop-n-preserved : goal.loop-n-preserved
loop-n-preserved c =
    let n = c.loop-n.n in
    let l = as_line c.line.result.now in
    line_next c.args.book.now.theory (lines c.args.book.now.entries) n (n + 1) (n + 1) l c.args.out.now.items c.loop-n.out.items c.put_line.new.out.items
    c.line.ensures refl refl c.loop-n.invariant
    (c.in_ok-put_line.ensures ∙ ap (λ t. written_line c.loop-n.out.items (line_tokens t (n + 1) l)) c.theory.ensures)
