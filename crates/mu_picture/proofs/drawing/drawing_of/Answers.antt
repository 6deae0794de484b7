use Rattle.std.proofs.Common.{◌≤◌, ◌++◌, ◌∙◌, ap, subst, sym}
use Rattle.mu_picture.specs.Drawing.{content_of, document_of, width_of}
use Rattle.mu_picture.specs.Xml.{IsDocument}
use Rattle.mu_picture.proofs.Documents.{drawing_is}
use Rattle.mu_picture.proofs.drawing.drawing_of.Goals as goal

pub returns : goal.returns
returns c =
    let job = c.args.job.now in
    let line = c.args.line in
    let picture = c.args.picture.now in
    let breach = c.args.breach.now in
    let width = c.in_ok-width.width in
    let height = c.height-height.result in
    let is = c.in_ok-push_document.ensures
    ∙ (ap (λ s. s ++ document_of width height (content_of job line picture breach width)) c.new-sheet.ensures
    ∙ (ap (λ w. document_of w height (content_of job line picture breach w)) c.in_ok-width.ensures
    ∙ ap (λ h. document_of (width_of job picture breach) h (content_of job line picture breach (width_of job picture breach))) c.height-height.ensures.is)) in
    record {
      drawing = is;
      fits = subst (λ h. h ≤ 32767) c.height-height.ensures.is c.height-height.ensures.fits;
      document = subst IsDocument (sym is) (drawing_is job line picture breach);
    }
