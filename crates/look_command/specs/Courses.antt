-- The courses of `story` and `timeline`.
use Rattle.std.specs.Prelude.{ℕ, Bool, List, Option, if◌then◌else◌, length}
use Rattle.plan_reader.specs.PlanView.{PlanView}
use Rattle.pair_machine.specs.Machine.{opening}
use Rattle.pair_machine.specs.Output.{output}
use Rattle.pair_machine.specs.declared.order.Order.{Order}
use Rattle.command_course.specs.Course.{Way}
use Rattle.command_course.specs.FeedView.{FeedView}
use Rattle.command_course.specs.Feeds.{with_feed}
use Rattle.replay_command.specs.Courses.{flow_for}
use Rattle.run_command.specs.Scripts.{with_script}
use Rattle.run_watch.specs.Columns.{frames_from}
use Rattle.run_watch.specs.FrameView.{FrameView}
use Rattle.run_watch.specs.Watching.{emitted_in, told_from}
use Rattle.run_watch.specs.declared.happening.Told.{Told}
use Rattle.run_end.specs.Ends.{end_in}
use Rattle.run_end.specs.declared.ends.RunEnd.{RunEnd}
use Rattle.run_timeline.specs.Timeline.{timeline}
use Rattle.lane_chart.specs.ChartView.{ChartView}
use Rattle.lane_chart.specs.SvgText.{chart_svg}
use Rattle.lane_chart.specs.Text.{chart_text}
use Rattle.run_story.specs.StoryText.{story_text}
use Rattle.look_json.specs.ChartJson.{chart_json}
use Rattle.look_json.specs.StoryJson.{story_json}
use Rattle.command_course.specs.Answers.{AnswerView}
use Rattle.look_command.specs.Reports.{Telling, reports}
use Rattle.look_command.specs.declared.timeline.Drawing.{Drawing}
use Rattle.look_command.specs.declared.timeline.Drawing.TheVariants.{Json, Svg, Text}

-- ---- `story`

-- how many rows a plan gives for what it is fed with
abbrev pub rows_in_all : FeedView → ℕ
rows_in_all feed = length (output feed.plan feed.inputs)

-- a story as text, or as JSON
abbrev pub story_as : (json : Bool) → List Told → List Order → (rows : ℕ) → RunEnd → (all : ℕ) → List ℕ
story_as json told orders rows end all = if json then story_json told orders rows end all else story_text told orders rows end all

-- the story of a run under these orders: what happened along the events from the opening on, and how the state stands and ends that they
-- reach, where the plan gives so many rows in all
abbrev pub story_telling : (json : Bool) → List Order → (all : ℕ) → Telling
story_telling json orders all feed lines s =
    story_as json (told_from feed.plan feed.inputs opening lines) orders (emitted_in feed.plan feed.inputs s) (end_in (flow_for feed) s) all

-- the script is read, and then the events
abbrev pub tells_story : (events : List ℕ) → (script : Option (List ℕ)) → (json : Bool) → FeedView → Way AnswerView
tells_story events script json feed next = with_script script feed.plan (λ orders. reports (story_telling json orders (rows_in_all feed)) events feed next)

-- `story`: plan, trades, movements, script and events, each read and checked before the next one
abbrev pub story_way : (plan trades events : List ℕ) → (cash script : Option (List ℕ)) → (json : Bool) → Way AnswerView
story_way plan trades events cash script json next = with_feed plan trades cash (λ feed. tells_story events script json feed next)

-- ---- `timeline`

-- into how many columns events are cut at most: of letters, and of pixels
abbrev pub columns_for : Drawing → ℕ
columns_for Text = 100
columns_for Svg = 960
columns_for Json = 100

-- how a chart is to be written, by the options; with both it is JSON
abbrev pub drawing_of : (svg json : Bool) → Drawing
drawing_of svg json = if json then Json else if svg then Svg else Text

-- how a chart is written: as text, as SVG or as JSON
abbrev pub drawn_as : Drawing → ChartView → List ℕ
drawn_as Text chart = chart_text chart
drawn_as Svg chart = chart_svg chart
drawn_as Json chart = chart_json chart

-- what is drawn of a plan's run that ends so, all lanes or those alone in which something happened
abbrev pub drawing : Drawing → (only : Bool) → PlanView → List FrameView → List Told → RunEnd → (all : ℕ) → List ℕ
drawing how only plan frames told end all = drawn_as how (timeline only plan frames told end all)

-- the drawing of a run: what happened along the events from the opening on, the frames at the ends of their columns, and how the state ends
-- that they reach, where the plan gives so many rows in all
abbrev pub timeline_telling : Drawing → (only : Bool) → (all : ℕ) → Telling
timeline_telling how only all feed lines s =
    drawing how only feed.plan (frames_from feed.plan feed.inputs (columns_for how) opening lines) (told_from feed.plan feed.inputs opening lines)
    (end_in (flow_for feed) s) all

-- the events are read, and then drawn
abbrev pub draws : (events : List ℕ) → Drawing → (only : Bool) → FeedView → Way AnswerView
draws events how only feed = reports (timeline_telling how only (rows_in_all feed)) events feed

-- `timeline`: plan, trades, movements and events, each read and checked before the next one
abbrev pub timeline_way : (plan trades events : List ℕ) → (cash : Option (List ℕ)) → (svg only json : Bool) → Way AnswerView
timeline_way plan trades events cash svg only json next = with_feed plan trades cash (λ feed. draws events (drawing_of svg json) only feed next)
