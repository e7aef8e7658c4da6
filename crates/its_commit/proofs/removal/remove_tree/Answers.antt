use Rattle.std.proofs.Common.{refl, sym, ◌∙◌, ap, subst}
use Rattle.its_core.specs.Cores.{core_at}
use Rattle.its_jobs.specs.Table.{job_at, superior_at, in_tree, Without}
use Rattle.its_pipes.specs.Pipes.{piped}
use Rattle.its_world.specs.World.{holder_at}
use Rattle.its_commit.proofs.RemovalLaws.{tree_removed, pages_left, cores_left, tidy_removed, on_lists_removed, forgotten_along}
use Rattle.its_commit.proofs.removal.remove_tree.Goals as goal
use Rattle.its_world.proofs.ContentsLaws.{core_as, jobs_as, frames_as, consoles_as, holders_as, files_as, clock_as, version_as, symbols_as, alarms_as, pipes_as}

-- the jobs, after slots were put on the lists to which they belong
jobs_after : (c : goal.After-settle_posts) → Without (in_tree (superior_at c.sweep.new.w.jobs) c.args.slot) (job_at c.sweep.new.w.jobs)
    (job_at c.settle_posts.new.self.jobs)
jobs_after c = subst (λ t. Without (in_tree (superior_at c.sweep.new.w.jobs) c.args.slot) (job_at c.sweep.new.w.jobs) (job_at t))
    (sym (jobs_as c.settle_posts.ensures.rest.is)) c.remove_tree.ensures.job

pub returns-clause-removed : goal.returns-clause-removed
returns-clause-removed c = λ j.
    let rest = c.settle_posts.ensures.rest.is in
    tree_removed c.args.w.now c.sweep.new.w c.args.slot c.within.ensures c.tree.ensures c.sweep.ensures.swept c.settle_posts.new.self
    c.tree-2.ensures (jobs_after c)
    (subst (λ t. Without (in_tree (superior_at c.sweep.new.w.jobs) c.args.slot) (superior_at c.sweep.new.w.jobs) (superior_at t))
    (sym (jobs_as rest)) c.remove_tree.ensures.superior)
    (core_as rest) (files_as rest) (alarms_as rest) (frames_as rest) (consoles_as rest)
    (λ k. ap (λ l. holder_at l k) (holders_as rest) ∙ (c.pass_on.ensures k)) (clock_as rest) (version_as rest)
    (forgotten_along _ _ _ _ _ (jobs_as rest) (ap (λ v. v.items) (symbols_as rest)) c.forget_removed.ensures.left)
    (λ l. ap (λ p. piped p l) (pipes_as rest) ∙ (c.leave_links.ensures l)) c.sweep.ensures.tidy j

pub returns-clause-pages : goal.returns-clause-pages
returns-clause-pages c = λ k. pages_left _ _ _ k c.requires.sound c.requires.unwound c.requires.page (returns-clause-removed c)

pub returns-clause-cores : goal.returns-clause-cores
returns-clause-cores c = λ k gone.
    ap (λ x. core_at x k) (core_as c.settle_posts.ensures.rest.is)
    ∙ cores_left c.args.w.now c.sweep.new.w c.args.slot c.within.ensures c.tree.ensures c.sweep.ensures.swept k gone

pub returns-clause-tidy : goal.returns-clause-tidy
returns-clause-tidy c =
    let rest = c.settle_posts.ensures.rest.is in
    tidy_removed c.args.w.now c.sweep.new.w c.args.slot c.within.ensures c.tree.ensures c.sweep.ensures.swept c.settle_posts.new.self
    c.tree-2.ensures (jobs_after c) (core_as rest) (files_as rest) (alarms_as rest) (clock_as rest)
    (forgotten_along _ _ _ _ _ (jobs_as rest) (ap (λ v. v.items) (symbols_as rest)) c.forget_removed.ensures.left)
    (on_lists_removed c.args.w.now c.sweep.new.w c.args.slot c.within.ensures c.tree.ensures c.sweep.ensures.swept c.settle_posts.new.self
    c.tree-2.ensures (jobs_after c) _ (jobs_as rest) refl refl refl refl c.settle_posts.ensures)
    c.sweep.ensures.tidy

pub returns-clause-frames : goal.returns-clause-frames
returns-clause-frames c = ap (λ x. x.frames) (core_as c.settle_posts.ensures.rest.is) ∙ c.sweep.ensures.swept.pages
