-- the words of a file are the directory's, those of a draft are not
use Rattle.std.proofs.Common.{ap, ◌∙◌}
use Rattle.its_word.specs.Directory.{with_changed, longer}
use Rattle.its_files.specs.Files.{Store, directory, entry_at, is_file, is_draft, names_at}
use Rattle.its_files.proofs.DirectoryLaws.{on_ok, with_word_file, with_word_draft}
use Rattle.its_files.proofs.files.Files.append.Goals as goal

pub returns-clause-file : goal.returns-clause-file
returns-clause-file c =
    let i = c.self.inside in
    let s : Store = record { entries = i.entries.items; order = i.order.items; mark = i.mark; stored = i.blocks } in
    on_ok c.append.result (λ e f.
    ap (λ b. directory (record { entries = i.entries.items; order = i.order.items; mark = i.mark; stored = b })) e
    ∙ with_word_file s c.self.invariant c.args.id c.args.w (ap (λ x. is_file (entry_at x c.args.id)) c.self.view_is ∙ f)
    ∙ ap (λ x. with_changed (names_at x c.args.id) (longer c.args.w) (directory x)) c.self.view_is) c.append.ensures.ok

pub returns-clause-draft : goal.returns-clause-draft
returns-clause-draft c =
    let i = c.self.inside in
    let s : Store = record { entries = i.entries.items; order = i.order.items; mark = i.mark; stored = i.blocks } in
    on_ok c.append.result (λ e f.
    ap (λ b. directory (record { entries = i.entries.items; order = i.order.items; mark = i.mark; stored = b })) e
    ∙ with_word_draft s c.self.invariant c.args.id c.args.w (ap (λ x. is_draft (entry_at x c.args.id)) c.self.view_is ∙ f)
    ∙ ap directory c.self.view_is) c.append.ensures.ok
