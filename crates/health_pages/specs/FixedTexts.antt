-- Bodies that never change
use Rattle.std.specs.Prelude.{ℕ, List, codes}
use Rattle.health_pages.specs.declared.asked_page.FixedPage.{FixedPage}
use Rattle.health_pages.specs.declared.asked_page.FixedPage.TheVariants.{Index, Style, Script, Live}
use Rattle.health_pages.specs.declared.page_files.TheConstants.{INDEX_HTML, PAGE_CSS, PAGE_JS}

abbrev pub fixed_text : FixedPage → List ℕ
fixed_text Index = INDEX_HTML.now
fixed_text Style = PAGE_CSS.now
fixed_text Script = PAGE_JS.now
fixed_text Live = codes "live\n"
