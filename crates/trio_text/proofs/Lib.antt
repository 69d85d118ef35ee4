pub mod PlanNodes
