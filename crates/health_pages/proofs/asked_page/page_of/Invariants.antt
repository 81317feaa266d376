use Rattle.std.proofs.Common.{◌≡◌, drop, find}
use Rattle.std.specs.Str.{bytes_eq}
use Rattle.health_pages.specs.Pages.{page_of, page_path}
use Rattle.health_pages.proofs.asked_page.page_of.Given as goal

abbrev pub invariant-pages : goal.invariant-pages
invariant-pages l =
    find (λ page. bytes_eq (page_path page) l.target) (drop l.page-index l.page-items) ≡ page_of l.target
