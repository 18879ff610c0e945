-- What decides on activities, as the definitions see it.
use Rattle.am_model.specs.Links as links
use Rattle.am_links.specs.declared.leading.Leading.{Leading}

-- what decides
abbrev pub led_by : Leading → links.Leading
led_by leads = record { is_link = leads.is_link; approved = leads.approved; browser = leads.browser }
